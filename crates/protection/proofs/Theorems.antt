-- What is said of protect lists, proved.
use Rattle.protection.specs.Theorems.{Packing}
use Rattle.protection.proofs.Marks.{marked_list}
use Rattle.protection.proofs.Unpacked.{stands_for, mark_unpacked}

pub packing : Packing
packing = record {
  stands_for = stands_for;
  marked = marked_list;
  mark_unpacked = mark_unpacked;
}
