-- The one unit of the character is written, or the first of its two, or both.
use Rattle.std.proofs.Common.{◌≡◌, length, arith}
use Rattle.std.proofs.lemmas.Grind.{common_steps}
use Rattle.uefi_text.proofs.Utf16.{with_units-first, with_units-one, with_units-two}
use Rattle.uefi_text.proofs.encode.write_char.Goals.{then-units-gt1+then-place-buffer, else-units-gt1, else-units-gt1-via-then-units-gt1+else-place-buffer, else-units-gt1-via-else-units-gt1}
use Rattle.uefi_text.proofs.encode.write_char.Goals as goal

pub returns-clause-buffer : goal.returns-clause-buffer
returns-clause-buffer c =
    let units = c.encode_utf16-units.result.now in
    let buffer = c.args.buffer.now in
    let place = c.args.place in
    elim c.if-units-gt1.branch [
      | then-units-gt1+then-place-buffer w ↦
          let two : length units ≡ 2 = omega arith in
          let all = with_units-two units buffer place two (grind (arith, common_steps)) in
          grind (arith, common_steps, all)
      | else-units-gt1 w ↦
          elim w.else-units-gt1.branch [
            | else-units-gt1-via-then-units-gt1+else-place-buffer v ↦
                let two : length units ≡ 2 = omega arith in
                let all = with_units-first units buffer place two (grind (arith, common_steps)) in
                grind (arith, common_steps, all)
            | else-units-gt1-via-else-units-gt1 v ↦
                let one : length units ≡ 1 = omega arith in
                let all = with_units-one units buffer place one (omega arith) in
                grind (arith, common_steps, all)
          ]
    ]
