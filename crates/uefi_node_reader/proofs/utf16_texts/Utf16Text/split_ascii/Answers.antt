use Rattle.std.proofs.Common.{◌≡◌, ◌-◌, ◌*◌, ◌/◌, ◌++◌, ◌∙◌, List, ℕ, ap, sym, arith, drop, length}
use Rattle.std.proofs.lemmas.List.{take-append-drop}
use Rattle.uefi_node_reader.proofs.Utf16Texts.{ascii_split, bytes_at}
use Rattle.uefi_node_reader.proofs.utf16_texts.Utf16Text.split_ascii.Goals as goal

pub returns-clause-bytes : goal.returns-clause-bytes
returns-clause-bytes c =
    let text = c.args.self in
    let units = text.units.now.now in
    let xs : List ℕ = c.split_at.result.0.now in
    let ys : List ℕ = c.split_at.result.1.now in
    let at : c.units_from-rest.result.now ≡ drop (text.place / 4) units = c.units_from-rest.ensures ∙ ap (drop (text.place / 4)) c.units_of-units.ensures in
    let split : drop (text.place / 4) units ≡ xs ++ ys =
    sym at ∙ sym (take-append-drop c.args.count c.units_from-rest.result.now)
    ∙ (λ i. sym c.split_at.ensures.front i ++ sym c.split_at.ensures.back i) in
    let count : length xs ≡ c.args.count = c.split_at.ensures.front_len in
    let left : text.end - 1 - length xs ≡ text.end - c.args.count - 1 = omega (arith, count) in
    let all : length units ≡ length c.units_of-units.result.now = ap length (sym c.units_of-units.ensures) in
    ascii_split units xs ys text.place (text.end - 1) c.if-self-ne0.false split (c.is_ascii.ensures.0 c.if-not-is_ascii.false)
    (omega (arith, count, c.if-self-count.false))
    ∙ (λ i. xs ++ bytes_at units (4 * (all i - length ys)) (left i))
