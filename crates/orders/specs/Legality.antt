-- What the code answers of check 5 (document 01, row 5 of the causes).
use Rattle.std.specs.Prelude.{Option, Some, None}
use Rattle.hexfloat.specs.Answer.{Answer, gives, stops}
use Rattle.orders.specs.declared.legal_order.LegalOrder.{LegalOrder}
use Rattle.orders.specs.declared.order.Operation.{Operation}

-- an order that doesn't pass is a 5
abbrev pub says_legality : Option LegalOrder → Answer Operation
says_legality (Some l) = gives l.operation
says_legality None = stops 5
