use Rattle.std.proofs.Common.{drop, take}
use Rattle.std.specs.Fmt.{WritesInCalls}
use Rattle.std.specs.Str.{encode_utf8_all}
use Rattle.uefi_path.specs.Separators.{with_separators}
use Rattle.uefi_text.specs.Units.{without_nul}
use Rattle.uefi_text.specs.Views.{items_of}
use Rattle.uefi_device_path.proofs.file_path.put_units.Given as goal

-- the units so far were put
abbrev pub invariant-loop-place : goal.invariant-loop-place
invariant-loop-place g l = record {
  put : WritesInCalls g.S.TextSink.puts l.fn.sink
      (encode_utf8_all (with_separators (drop l.start (take l.place (without_nul (items_of l.name)))))) l.sink;
}
