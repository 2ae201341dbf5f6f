use Rattle.std.proofs.Common.{◌≡◌, ℕ, List, drop, map}
use Rattle.std.specs.Prelude.{Option}
use Rattle.uefi_node_reader.specs.LenientCalls.{first_tried, names_tried, plain_told}
use Rattle.uefi_node_reader.specs.LenientFields.{after_literal}
use Rattle.uefi_node_reader.proofs.lenient.lenient_table.try_names.Given as goal

-- the names that are left decide
abbrev pub invariant-loop-name : goal.invariant-loop-name
invariant-loop-name g l =
    first_tried (λ (place : ℕ) (name : List ℕ × Option ℕ). plain_told name.1 (after_literal name.0 (g.T.Text.bytes l.fn.text))) l.name-index
    (map (λ name. (name.0.now, name.1)) (drop l.name-index l.names)) l.so_far
    ≡ names_tried (map (λ name. (name.0.now, name.1)) l.names) l.fn.furthest (g.T.Text.bytes l.fn.text)
