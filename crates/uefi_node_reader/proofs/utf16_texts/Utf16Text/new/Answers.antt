use Rattle.std.proofs.Common.{arith}
use Rattle.std.proofs.lemmas.Bool.Decides.{nat_tests}
use Rattle.uefi_node_reader.proofs.Utf16Texts.{chars_read_more, read_of_all, read_of_ascii, read_of_part}
use Rattle.uefi_node_reader.proofs.utf16_texts.Utf16Text.new.Goals as goal

pub returns-then-is_ascii : goal.returns-then-is_ascii
returns-then-is_ascii c =
    let is = c.units_of-all.ensures in
    rw (← is) (read_of_ascii c.units_of-all.result.now (c.is_ascii.ensures.0 c.if-is_ascii.true))

pub chars-preserved : goal.chars-preserved
chars-preserved c =
    chars_read_more c.units_of-all.result.now c.chars.rest.now c.in-Some.after.now c.in-Some.c c.chars.end c.len_utf8-end.result
    c.chars.invariant c.len_utf8-end.ensures.value c.in-Some.ensures.0 c.in-Some.ensures.1

pub returns-then-not-is_empty : goal.returns-then-not-is_empty
returns-then-not-is_empty c =
    rw (← c.units_of-all.ensures) (read_of_part c.units_of-all.result.now c.chars.rest.now c.chars.end c.chars.invariant c.in_default.ensures
    (grind (arith, nat_tests, c.is_empty.ensures, c.if-not-is_empty.true)))

pub returns : goal.returns
returns c =
    rw (← c.units_of-all.ensures) (read_of_all c.units_of-all.result.now c.chars.rest.now c.chars.end c.chars.invariant c.in_default.ensures
    (grind (arith, nat_tests, c.is_empty.ensures, c.if-not-is_empty.false)))
