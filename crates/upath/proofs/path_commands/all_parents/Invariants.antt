use Rattle.std.proofs.Common.{◌≡◌, ◌++◌}
use Rattle.uefi_path.specs.SuccessiveParents.{parent_chain, parents_of}
use Rattle.upath.proofs.ParentWalks.{most_left}
use Rattle.upath.proofs.path_commands.all_parents.Given as goal

-- the parents so far, and those to come, are all
abbrev pub invariant-loop-next : goal.invariant-loop-next
invariant-loop-next g l = l.parents.items ++ parent_chain l.next ≡ parents_of l.path

abbrev pub decreases-loop-next : goal.decreases-loop-next
decreases-loop-next g l = most_left l.next
