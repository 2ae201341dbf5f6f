-- Paths have the same nodes exactly when their bytes are equal.
use Rattle.std.proofs.Common.{◌≡◌, ◌∙◌, ap, sym, arith}
use Rattle.std.proofs.lemmas.Grind.{common_steps}
use Rattle.std.specs.Cmp.Lexicographic.{bytes_decides}
use Rattle.uefi_device_path.specs.Paths.{path_bytes}
use Rattle.uefi_device_path.specs.Views.{nodes_of}
use Rattle.uefi_device_path.proofs.ShortForms.{whole_path}
use Rattle.uefi_device_path.proofs.Splits.{path_once}
use Rattle.uefi_device_path.proofs.matching.have_same_nodes.Goals as goal

pub returns : goal.returns
returns c =
    let one = c.as_bytes.result.now in
    let two = c.as_bytes-2.result.now in
    let path = nodes_of c.args.path in
    let other = nodes_of c.args.other in
    let decides = bytes_decides one two in (
      λ yes.
          let same : one ≡ two = decides.0 (grind (arith, common_steps)) in
          path_once one path other (whole_path one path c.as_bytes.ensures.inner c.as_bytes.ensures.bytes)
          (whole_path one other c.as_bytes-2.ensures.inner (same ∙ c.as_bytes-2.ensures.bytes)),
      λ e.
          let same = c.as_bytes.ensures.bytes ∙ ap path_bytes e ∙ sym c.as_bytes-2.ensures.bytes in
          let yes = decides.1 same in grind (arith, common_steps),
    )
