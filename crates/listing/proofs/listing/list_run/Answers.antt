use Rattle.listing.specs.Listing.{listed}
use Rattle.listing.proofs.Appends.{then, whole}
use Rattle.listing.proofs.listing.list_run.Goals as goal

pub returns : goal.returns
unfolding listed
returns c =
    whole c.new-out.ensures.0
    (then c.push_bytes.ensures
    (then c.push_field.ensures.appended
    (then (rw c.number.ensures at c.push_field-2.ensures.appended)
    (then c.push_field-3.ensures.appended
    (then c.push_field-4.ensures.appended
    (then c.push_field-5.ensures.appended
    (then c.push_bytes-2.ensures c.push_registers.ensures)))))))
