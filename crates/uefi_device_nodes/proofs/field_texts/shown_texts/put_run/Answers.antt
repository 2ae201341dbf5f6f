-- One unit more is in the run, which is a Rust text.
use Rattle.std.proofs.Common.{sym, subst, drop, take}
use Rattle.std.specs.Str.{IsUtf8}
use Rattle.uefi_text.specs.Views.{items_of}
use Rattle.uefi_device_nodes.proofs.UnitsShown.{printable_utf8}
use Rattle.uefi_device_nodes.proofs.field_texts.shown_texts.put_run.Goals as goal

pub from_utf8_unchecked-requires : goal.from_utf8_unchecked-requires
from_utf8_unchecked-requires g c =
    let printed = take c.loop-len.len (drop c.args.place (items_of c.args.units.now)) in
    subst IsUtf8 (sym {b = printed} c.loop-len.invariant.same) (printable_utf8 printed c.loop-len.invariant.printable)
