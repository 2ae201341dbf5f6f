-- The units of the file path are written, or have no room.
use Rattle.std.proofs.Common.{◌≡◌, ◌<◌, ◌∙◌, ◌+◌, ◌^◌, ap, sym, inl, inr, ℕ, List, length, arith, Ok, Err}
use Rattle.std.proofs.lemmas.Bool.{cases_lt, le-ltb, lt-ltb}
use Rattle.std.proofs.lemmas.Grind.{common_steps}
use Rattle.uefi_text.proofs.TextsInBuffers.{text_fits}
use Rattle.uefi_text.specs.UnitTexts.{places_needed, utf16_units, written_len}
use Rattle.uefi_text.specs.UnalignedCStr16.{with_prefix}
use Rattle.uefi_text.specs.Units.{nul_terminated}
use Rattle.uefi_text.specs.declared.unit_sink.BufferTooSmall.{BufferTooSmall}
use Rattle.uefi_device_path.specs.FilePaths.{file_path}
use Rattle.uefi_device_path.specs.Paths.{nodes_in}
use Rattle.uefi_device_path.specs.Views.{printed_file_path}
use Rattle.uefi_device_path.proofs.BufferPaths.{file_path_units, file_path_within}
use Rattle.uefi_device_path.proofs.file_path.write_file_path_in.Goals as goal

pub write_bounded_units-requires : goal.write_bounded_units-requires
write_bounded_units-requires c = λ room.
    let path = file_path (nodes_in c.args.bytes.now) in
    let units : utf16_units (printed_file_path c.in-Ok.text) ≡ path = ap utf16_units c.in-Ok.ensures.ok ∙ file_path_units path c.in-Ok.ensures.text in
    omega (arith, ap length units, file_path_within (nodes_in c.args.bytes.now), ap length c.requires.join)

-- what a written length says
ok_len : (text old : List ℕ) (len : ℕ) → Ok len ≡ written_len text old → (len ≡ length text) × (length text < length old)
ok_len text old len e = elim (cases_lt (length text) (length old)) [
  | inl less ↦ (let same : Ok len ≡ Ok (length text) = rw (lt-ltb (length text) (length old) less) at e in let is : len ≡ length text = cc in (is, less))
  | inr more ↦ absurd (let never : Ok len ≡ Err (record { 0 = places_needed text }) = rw (le-ltb (length text) (length old) more) at e in cc)
]

err_needed : (text old : List ℕ) (error : BufferTooSmall) → length text + 1 < 2 ^ 64 → Err error ≡ written_len text old
    → (error.0 ≡ length text + 1) × (length old < error.0)
err_needed text old error few e = elim (cases_lt (length text) (length old)) [
  | inl less ↦ absurd (let never : Err error ≡ Ok (length text) = rw (lt-ltb (length text) (length old) less) at e in cc)
  | inr more ↦ (
      let same : Err error ≡ Err (record { 0 = places_needed text }) = rw (le-ltb (length text) (length old) more) at e in
      let is : error ≡ record { 0 = places_needed text } = cc in
      let needed : error.0 ≡ places_needed text = ap (λ x. x.0) is in
      (omega (arith, needed), omega (arith, needed, more)))
]

pub returns-in-Ok-write_bounded_units-clause-len : goal.returns-in-Ok-write_bounded_units-clause-len
returns-in-Ok-write_bounded_units-clause-len c =
    let path = file_path (nodes_in c.args.bytes.now) in
    let units : utf16_units (printed_file_path c.in-Ok.text) ≡ path = ap utf16_units c.in-Ok.ensures.ok ∙ file_path_units path c.in-Ok.ensures.text in
    (ok_len path c.args.buffer.now _
    (sym c.in-Ok-write_bounded_units.is ∙ c.write_bounded_units.ensures.len ∙ ap (λ us. written_len us c.args.buffer.now) units)).0

pub returns-in-Ok-write_bounded_units-clause-text : goal.returns-in-Ok-write_bounded_units-clause-text
returns-in-Ok-write_bounded_units-clause-text c = c.in-Ok.ensures.text

pub returns-in-Ok-write_bounded_units-clause-ok : goal.returns-in-Ok-write_bounded_units-clause-ok
returns-in-Ok-write_bounded_units-clause-ok c =
    let path = file_path (nodes_in c.args.bytes.now) in
    let units : utf16_units (printed_file_path c.in-Ok.text) ≡ path = ap utf16_units c.in-Ok.ensures.ok ∙ file_path_units path c.in-Ok.ensures.text in
    let room = (ok_len path c.args.buffer.now _
    (sym c.in-Ok-write_bounded_units.is ∙ c.write_bounded_units.ensures.len ∙ ap (λ us. written_len us c.args.buffer.now) units)).1 in
    c.write_bounded_units.ensures.buffer ∙ ap (λ us. with_prefix (nul_terminated us) c.args.buffer.now) units ∙ sym (text_fits path c.args.buffer.now room)

pub returns-in-Err-write_bounded_units-clause-refusal : goal.returns-in-Err-write_bounded_units-clause-refusal
returns-in-Err-write_bounded_units-clause-refusal c =
    let path = file_path (nodes_in c.args.bytes.now) in
    let units : utf16_units (printed_file_path c.in-Ok.text) ≡ path = ap utf16_units c.in-Ok.ensures.ok ∙ file_path_units path c.in-Ok.ensures.text in
    let bytes : length c.args.bytes.now < 2 ^ 63 = grind (arith, common_steps) in
    let few : length path + 1 < 2 ^ 64 = omega (arith, bytes, file_path_within (nodes_in c.args.bytes.now), ap length c.requires.join) in
    let needed = err_needed path c.args.buffer.now _ few
    (sym c.in-Err-write_bounded_units.is ∙ c.write_bounded_units.ensures.len ∙ ap (λ us. written_len us c.args.buffer.now) units) in
    (c.in-Ok.ensures.readable, needed.0, needed.1)
