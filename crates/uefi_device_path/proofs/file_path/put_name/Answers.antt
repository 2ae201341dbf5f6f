-- The separator that is missing, and the units of the name.
use Rattle.std.proofs.Common.{◌≡◌, ◌∙◌, ap, sym, refl, subst, true, false, ◌<◌, ◌++◌, codes, ℕ, List, length, drop, arith}
use Rattle.std.proofs.lemmas.Grind.{common_steps}
use Rattle.std.proofs.lemmas.Str.{encode_ascii}
use Rattle.std.specs.Fmt.{WritesInCalls}
use Rattle.std.specs.Str.{encode_utf8_all}
use Rattle.uefi_path.specs.Pushing.{needs_separator}
use Rattle.uefi_path.specs.Separators.{with_separators}
use Rattle.uefi_text.proofs.Puts.{puts_as, puts_two}
use Rattle.uefi_text.specs.Units.{without_nul}
use Rattle.uefi_text.specs.Views.{items_of}
use Rattle.uefi_device_path.proofs.BufferPaths.{added_by, ends_as_name, some_added, some_after, start_is, start_of}
use Rattle.uefi_device_path.proofs.file_path.put_name.Goals.{then-end, else-end}
use Rattle.uefi_device_path.proofs.file_path.put_name.Goals as goal

pub returns : goal.returns
returns g c = λ path ends.
    let text = without_nul (items_of c.args.name.now) in
    let start = c.name_start-start.result in
    let begins : start ≡ start_of path text = c.name_start-start.ensures ∙ start_is path text c.args.end.is_empty ends.empty in
    let some : start_of path text < length text = grind (arith, common_steps, begins, c.if-len-start.false, c.len.ensures) in
    let tail = encode_utf8_all (with_separators (drop start text)) in
    let same : with_separators (drop start text) ≡ with_separators (drop (start_of path text) text) = ap (λ n. with_separators (drop n text)) begins in
    let puts : WritesInCalls g.S.TextSink.puts c.args.sink.now (encode_utf8_all (added_by path text)) c.put_units.new.sink = elim c.if-end.branch [
      | then-end w ↦
          let missing : needs_separator path ≡ true = sym ends.missing ∙ w.if-end.true in
          puts_two _ _ _ _ (codes "\\") tail _ w.put_str.ensures (subst (λ sink. WritesInCalls g.S.TextSink.puts sink tail c.put_units.new.sink) w.sink-is c.put_units.ensures)
          (ap (λ (us : List ℕ). us ++ tail) (sym (encode_ascii 92 (omega arith))) ∙ rw (missing, same) refl)
      | else-end w ↦
          let none : needs_separator path ≡ false = sym ends.missing ∙ w.if-end.false in
          puts_as _ _ _ _ _ (subst (λ sink. WritesInCalls g.S.TextSink.puts sink tail c.put_units.new.sink) w.sink-is c.put_units.ensures) (rw (none, same) refl)
    ] in (
      added_by path text,
      record {
        whole = some_added path text some;
        ends = record { empty = some_after path text some; missing = c.is_open.ensures ∙ sym (ends_as_name path text some) };
      },
      puts,
    )
