-- The run is a Rust text, and printed as it is.
use Rattle.std.proofs.Common.{◌∙◌, ◌++◌, sym, subst, take}
use Rattle.std.proofs.lemmas.List.{take-append-drop}
use Rattle.std.specs.Str.{IsUtf8}
use Rattle.uefi_text.proofs.Puts.{puts_as}
use Rattle.uefi_device_nodes.proofs.ShownFields.{printable_bytes}
use Rattle.uefi_device_nodes.proofs.UnitsShown.{printable_utf8}
use Rattle.uefi_device_nodes.proofs.field_texts.shown_texts.put_printable.Goals as goal

pub from_utf8_unchecked-requires : goal.from_utf8_unchecked-requires
from_utf8_unchecked-requires g c = subst IsUtf8 (sym c.split_at.ensures.front) (printable_utf8 _ c.printable_len.ensures.printable)

pub returns : goal.returns
returns g c =
    let len = c.printable_len.result in
    let bytes = c.args.bytes.now in (
      take len bytes,
      (λ i. take len bytes ++ c.split_at.ensures.back i) ∙ take-append-drop len bytes,
      puts_as _ _ _ _ _ c.put_str.ensures (c.from_utf8_unchecked.ensures ∙ c.split_at.ensures.front
          ∙ printable_bytes (take len bytes) c.printable_len.ensures.printable),
    )
