use Rattle.listing.specs.Listing.{refusal}
use Rattle.listing.proofs.Appends.{then, whole}
use Rattle.listing.proofs.listing.list_refusal.Goals as goal

pub returns : goal.returns
unfolding refusal
returns c = whole c.new-out.ensures.0 (then c.push_bytes.ensures (then c.push_field.ensures.appended c.push_field-2.ensures.appended))
