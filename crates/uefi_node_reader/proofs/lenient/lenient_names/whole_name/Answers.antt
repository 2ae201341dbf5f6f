use Rattle.std.proofs.Common.{ℕ, List, sym, ap}
use Rattle.std.specs.Str.{chars, is_utf8}
use Rattle.uefi_node_reader.specs.LenientCalls.{whole}
use Rattle.uefi_node_reader.specs.LenientNodes.{rooted}
use Rattle.uefi_node_reader.specs.NamedFiles.{name_read}
use Rattle.uefi_node_reader.proofs.lenient.lenient_names.whole_name.Goals as goal

pub returns-in_err-first : goal.returns-in_err-first
unfolding chars is_utf8
returns-in_err-first g c =
    rw c.from_residual.ensures (ap (λ (l : List ℕ). whole (name_read (rooted l))) (sym c.in_err-first.ensures))
