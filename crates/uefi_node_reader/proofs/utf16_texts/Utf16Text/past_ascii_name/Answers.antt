use Rattle.std.proofs.Common.{◌≡◌, ◌/◌, ◌∙◌, ℕ, false, ap, sym, arith, drop, take}
use Rattle.std.specs.List.{list_any}
use Rattle.std.proofs.lemmas.List.{take-take}
use Rattle.uefi_node_reader.specs.NamedFiles.{ends_name}
use Rattle.uefi_node_reader.proofs.Utf16Texts.{none_before}
use Rattle.uefi_node_reader.proofs.utf16_texts.Utf16Text.past_ascii_name.Goals as goal

pub returns-in-Some : goal.returns-in-Some
returns-in-Some c =
    let text = c.args.self in
    let count = c.name_units.result in
    let part = c.split_at.result.0.now in
    let none : list_any ends_name (take count part) ≡ false = ap (λ (n : ℕ). list_any ends_name (take n part)) c.name_units.ensures.place ∙ none_before part in
    let units : c.units_from-units.result.now ≡ drop (text.place / 4) text.units.now.now =
    c.units_from-units.ensures ∙ ap (drop (text.place / 4)) c.units_of.ensures in
    let front : c.in-Some.field-0-0.now ≡ take count part =
    c.in-Some.ensures.units ∙ ap (take count) (sym units)
    ∙ sym (take-take count c.min.result c.units_from-units.result.now (omega (arith, c.name_units.ensures.within, c.split_at.ensures.front_len))) ∙ ap (take count) (sym c.split_at.ensures.front) in
    (c.in-Some.field-0-0.now, ap (list_any ends_name) front ∙ none, c.in-Some.ensures.bytes)
