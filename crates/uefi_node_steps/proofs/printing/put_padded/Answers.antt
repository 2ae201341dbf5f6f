use Rattle.std.proofs.Common.{◌≡◌, ◌∙◌, ℕ, List, ap, arith, length, min, take}
use Rattle.std.proofs.lemmas.List.{take_min}
use Rattle.uefi_device_nodes.specs.FieldTexts.{until_nul}
use Rattle.uefi_node_steps.proofs.printing.put_padded.Goals as goal

pub returns : goal.returns
returns g c =
    let bytes = c.args.bytes.now in
    let count : c.min.result ≡ min 32 (length bytes) = omega (arith, c.min.ensures) in
    let same : c.until_nul.result.now ≡ until_nul (take 32 bytes) = c.until_nul.ensures
    ∙ ap (λ (n : ℕ). until_nul (take n bytes)) count ∙ ap (λ (l : List ℕ). until_nul l) (take_min 32 bytes) in
    rw same at c.put_byte_text.ensures
