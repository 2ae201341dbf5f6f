use Rattle.std.proofs.Common.{◌≡◌, drop}
use Rattle.uefi_node_steps.specs.Leaves.{letters_read}
use Rattle.uefi_node_steps.proofs.leaves.letters.Given as goal

abbrev pub invariant-loop-byte : goal.invariant-loop-byte
invariant-loop-byte g l = letters_read (drop l.byte-index l.letters) (g.T.Text.codes l.rest) ≡ letters_read l.letters (g.T.Text.codes l.fn.text)
