use Rattle.std.proofs.Common.{◌≡◌, ◌++◌}
use Rattle.std.specs.List.{flat_map}
use Rattle.std.specs.Prelude.{codes}
use Rattle.uefi_path.specs.SuccessiveParents.{parent_chain}
use Rattle.upath.specs.Output.{text_line}
use Rattle.upath.proofs.ParentWalks.{most_left}
use Rattle.upath.proofs.run.add_parent_lines.Given as goal

-- what was added, and the paths to come, is the whole
abbrev pub invariant-loop-next : goal.invariant-loop-next
invariant-loop-next g l =
    l.output.items ++ flat_map (text_line (codes "| ")) (parent_chain l.next)
    ≡ l.initial.output.items ++ flat_map (text_line (codes "| ")) (parent_chain l.initial.next)

abbrev pub decreases-loop-next : goal.decreases-loop-next
decreases-loop-next g l = most_left l.next
