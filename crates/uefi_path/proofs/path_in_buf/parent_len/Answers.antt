use Rattle.std.proofs.Common.{[], subst}
use Rattle.uefi_path.specs.Parents.{parent_of_components}
use Rattle.uefi_path.specs.Writing.{IsSunk}
use Rattle.uefi_path.proofs.Drafts.{is_made}
use Rattle.uefi_path.proofs.path_in_buf.parent_len.Goals as goal

pub returns : goal.returns
returns c =
    is_made _ _ [] _ c.requires.texts c.requires.pieces c.requires.bound
    (subst (λ ps. IsSunk (parent_of_components ps) c.sink_parent.result [] c.sink_parent.new.buffer) c.copy.ensures c.sink_parent.ensures)
