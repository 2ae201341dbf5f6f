use Rattle.std.proofs.Common.{◌≡◌, ◌&&◌, ◌∙◌, Bool, true, false, ap, sym, arith, refl, rules, nat_eq}
use Rattle.std.proofs.lemmas.Bool.Decides.{nat_tests}
use Rattle.std.proofs.lemmas.List.{nil_from_length}
use borrow.Author.Tests.{eqb-true}
use Rattle.std.specs.Char.{IsScalar}
use Rattle.uefi_node_reader.specs.NamedFiles.{is_name_char}
use Rattle.uefi_node_reader.proofs.Utf16Texts.{ascii_named, ascii_whole, bytes_of, is_named, named_more, named_none, next_shorter, not_named}
use Rattle.uefi_node_reader.proofs.utf16_texts.Utf16TextNameText.has_name_chars.Goals as goal

pub returns-in-Some : goal.returns-in-Some
returns-in-Some c =
    let units = c.in-Some.units.now in
    let whole = ascii_whole (bytes_of c.args.self) units (bytes_of c.in-Some.field-0-1) c.in-Some.ensures.bytes (c.in-Some.ensures.len ∙ c.len.ensures) in
    c.are_name_units.ensures ∙ ascii_named units c.in-Some.ensures.ascii ∙ ap is_named (sym whole)

pub returns-then-not-is_name_char : goal.returns-then-not-is_name_char
returns-then-not-is_name_char c =
    let scalar : IsScalar c.in-Some-next_char.c = search rules in
    let more = ap is_named c.in-Some-next_char.ensures ∙ named_more c.in-Some-next_char.c (bytes_of c.in-Some-next_char.after) scalar in
    let no : is_name_char c.in-Some-next_char.c ≡ false = sym c.is_name_char.ensures ∙ c.if-not-is_name_char.true in
    sym (sym c.chars.invariant ∙ more ∙ ap (λ (b : Bool). b && is_named (bytes_of c.in-Some-next_char.after)) no)

pub chars-smaller : goal.chars-smaller
chars-smaller c = next_shorter (bytes_of c.chars.rest) (bytes_of c.in-Some-next_char.after) c.in-Some-next_char.c c.in-Some-next_char.ensures

pub chars-preserved : goal.chars-preserved
chars-preserved c =
    let scalar : IsScalar c.in-Some-next_char.c = search rules in
    let more = ap is_named c.in-Some-next_char.ensures ∙ named_more c.in-Some-next_char.c (bytes_of c.in-Some-next_char.after) scalar in
    let yes : is_name_char c.in-Some-next_char.c ≡ true = sym c.is_name_char.ensures ∙ c.if-not-is_name_char.false in
    sym (more ∙ ap (λ (b : Bool). b && is_named (bytes_of c.in-Some-next_char.after)) yes) ∙ c.chars.invariant

pub returns : goal.returns
returns c =
    by (nat_eq c.len-2.result 0) refl
  where
    by : (b : Bool) → nat_eq c.len-2.result 0 ≡ b → nat_eq c.len-2.result 0 ≡ is_named (bytes_of c.args.self)
    by true e = e ∙ sym (named_none (bytes_of c.chars.rest) (nil_from_length (bytes_of c.chars.rest) (sym c.len-2.ensures ∙ eqb-true c.len-2.result 0 e))) ∙ c.chars.invariant
    by false e = e ∙ sym (not_named (bytes_of c.chars.rest) c.in_default-next_char.ensures (grind (arith, nat_tests, c.len-2.ensures, e))) ∙ c.chars.invariant
