use Rattle.std.proofs.Common.{◌≡◌, ◌-◌, ◌≤◌, ℕ, List, ◌++◌, drop, length}
use Rattle.std.specs.Fmt.{WritesInCalls}
use Rattle.uefi_text.specs.Views.{items_of}
use Rattle.uefi_device_nodes.specs.FieldTexts.{shown_units}
use Rattle.uefi_device_nodes.proofs.field_texts.shown_texts.put_utf16_text.Given as goal

abbrev pub decreases-loop-place : goal.decreases-loop-place
decreases-loop-place g l = length (items_of l.units) - l.place

-- what was put is the text up to the place
abbrev pub invariant-loop-place : goal.invariant-loop-place
invariant-loop-place g l = record {
  within : l.place ≤ length (items_of l.units);
  so_far : List ℕ;
  rest : so_far ++ shown_units (drop l.place (items_of l.units)) ≡ shown_units (items_of l.units);
  put : WritesInCalls g.S.TextSink.puts l.fn.sink so_far l.sink;
}
