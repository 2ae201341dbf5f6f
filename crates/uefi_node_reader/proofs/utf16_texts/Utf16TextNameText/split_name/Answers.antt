use Rattle.std.proofs.Common.{◌≡◌, ◌-◌, ◌+◌, ◌<◌, ◌≤◌, ◌^◌, ◌||◌, ◌∷◌, ◌∙◌, [], Bool, true, false, ap, sym, arith, length, rules}
use Rattle.std.proofs.lemmas.Bool.Decides.{nat_tests}
use Rattle.uefi_node_reader.specs.NamedFiles.{ends_name, is_after_node}
use Rattle.uefi_node_reader.proofs.Utf16Texts.{bytes_of, length_of, name_front, name_more, name_more_char, name_rest, next_shorter, take-padded}
use Rattle.uefi_node_reader.proofs.utf16_texts.Utf16TextNameText.split_name.Goals as goal
use Rattle.uefi_node_reader.proofs.utf16_texts.Utf16TextNameText.split_name.Goals.{in-Some-split_first+then-ends_name, in_default-split_first}

pub chars-smaller : goal.chars-smaller
chars-smaller c = next_shorter (bytes_of c.chars.rest) (bytes_of c.in-Some.after) c.in-Some.c c.in-Some.ensures

pub chars-preserved : goal.chars-preserved
chars-preserved c =
    let inside : ends_name c.in-Some.c ≡ false = grind (arith, nat_tests, c.if-c-eq47.false, c.if-c-eq44.false) in
    name_more_char (bytes_of c.args.self) (bytes_of c.chars.rest) (bytes_of c.in-Some.after) c.in-Some.c c.chars.invariant c.in-Some.ensures inside

pub bytes-preserved : goal.bytes-preserved
bytes-preserved c =
    let byte = c.in-Some-split_first.byte in
    let inside : ends_name byte ≡ false = sym c.ends_name.ensures ∙ c.if-ends_name.false in
    name_more (bytes_of c.args.self) (bytes_of c.bytes.rest) (byte ∷ []) (bytes_of c.in-Some-split_first.after) c.bytes.invariant c.in-Some-split_first.ensures
    (ap (λ (b : Bool). b || false) inside)

pub overflow_add-name : goal.overflow_add-name
overflow_add-name c =
    let fits : c.args.self.end < 2 ^ 64 = search rules in
    omega (arith, c.len.ensures, length_of c.args.self, fits)

pub returns-clause-name : goal.returns-clause-name
returns-clause-name c =
    let text = c.args.self in
    let all = bytes_of text in
    let rest = bytes_of c.bytes.rest in
    let ends : is_after_node rest ≡ true = elim c.match-split_first.branch [
      | in-Some-split_first+then-ends_name w ↦ ap is_after_node w.in-Some-split_first.ensures ∙ sym w.ends_name.ensures ∙ w.if-ends_name.true
      | in_default-split_first w ↦ ap is_after_node w.in_default-split_first.ensures
    ] in
    let count : c.len.result - c.len-2.result + 1 - 1 ≡ length all - length rest = omega (arith, c.len.ensures, c.len-2.ensures) in
    let few : c.len.result - c.len-2.result + 1 - 1 ≤ text.end - 1 = omega (arith, count, length_of text) in
    take-padded (c.len.result - c.len-2.result + 1 - 1) (text.end - 1) _ few
    ∙ name_front all rest c.bytes.invariant ends (c.len.result - c.len-2.result + 1 - 1) count

pub returns-clause-rest : goal.returns-clause-rest
returns-clause-rest c =
    let rest = bytes_of c.bytes.rest in
    let ends : is_after_node rest ≡ true = elim c.match-split_first.branch [
      | in-Some-split_first+then-ends_name w ↦ ap is_after_node w.in-Some-split_first.ensures ∙ sym w.ends_name.ensures ∙ w.if-ends_name.true
      | in_default-split_first w ↦ ap is_after_node w.in_default-split_first.ensures
    ] in
    name_rest (bytes_of c.args.self) rest c.bytes.invariant ends
