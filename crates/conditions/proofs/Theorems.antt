-- Conditions 1 and 3 of the machine, proved of its definitions.
use Rattle.protection.specs.Bits.{bitwise}
use Rattle.conditions.specs.Theorems.{Theorems}
use Rattle.conditions.proofs.Absent.{absent_above}
use Rattle.conditions.proofs.Apart.{apart_alone, starts_as}
use Rattle.conditions.proofs.Journals.{run_leaves, back_leaves_journal}
use Rattle.conditions.proofs.Leaves.{leaves_all}
use Rattle.conditions.proofs.Numbers.{one_of_the_numbers, zero_is_taken}
use Rattle.conditions.proofs.Onward.{moves_on}
use Rattle.conditions.proofs.Others.{leaves_other}
use Rattle.conditions.proofs.Packed.{same_over, as_before}
use Rattle.conditions.proofs.Protected.{protected_keeps}
use Rattle.conditions.proofs.Records.{read_by_form}
use Rattle.conditions.proofs.Return.{back_and_forth, refused_at_start}
use Rattle.conditions.proofs.RoundTrip.{round_trip}
use Rattle.conditions.proofs.Sets.{one_set}
use Rattle.conditions.proofs.Touch.{unstored_kept, untouched_free}
use Rattle.conditions.proofs.Trail.{as_trail, included}
use Rattle.conditions.proofs.Unindexed.{unindexed}
use Rattle.conditions.proofs.Unread.{unread_free}
use Rattle.conditions.proofs.Writes.{one_record}
use Rattle.conditions.proofs.Written.{unwritten_kept}

pub theorems : Theorems
theorems = record {
  as_trail = as_trail;
  included = λ d p x cs typed start. included d p x start cs;
  back_and_forth = λ d p x cs k typed v h. back_and_forth d p x cs typed k v h;
  refused_at_start = refused_at_start;
  protected = λ d p x cs a h. protected_keeps (bitwise p) a h d cs x;
  leaves_all = leaves_all;
  one_of_the_numbers = one_of_the_numbers;
  read_by_form = read_by_form;
  zero_is_taken = zero_is_taken;
  run_journal = run_leaves;
  back_journal = back_leaves_journal;
  one_record = one_record;
  same_over = same_over;
  as_before = as_before;
  absent_above = absent_above;
  unindexed = λ d p x none. unindexed d p none x;
  one_set = one_set;
  round_trip = round_trip;
  moves_on = moves_on;
  unwritten_kept = unwritten_kept;
  unread_free = unread_free;
  leaves_other = leaves_other;
  unstored_kept = unstored_kept;
  untouched_free = untouched_free;
  apart = apart_alone;
  starts_as = starts_as;
}
