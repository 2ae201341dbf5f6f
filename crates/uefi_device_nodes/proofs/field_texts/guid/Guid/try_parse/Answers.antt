-- A text that has the dashes and the digits of a GUID is its text, and every text of one has them.
use Rattle.std.proofs.Common.{◌≡◌, ◌∙◌, sym, refl, subst, List, ℕ}
use Rattle.uefi_device_nodes.specs.Guids.{HasBytes, IsDashed, IsGuidText}
use Rattle.uefi_device_nodes.proofs.GuidTexts.{guid_once, has_text, text_dashed, text_has}
use Rattle.uefi_device_nodes.proofs.field_texts.guid.Guid.try_parse.Goals as goal

pub returns-then-not-is_dashed-clause-accepts : goal.returns-then-not-is_dashed-clause-accepts
returns-then-not-is_dashed-clause-accepts c =
    let same : c.args.text.now ≡ c.as_bytes-text.result.now = cc (c.as_bytes-text.ensures.value) in (
      λ e. absurd (cc e),
      λ found. absurd (cc (c.if-not-is_dashed.true, c.is_dashed.ensures.1 (subst IsDashed same (text_dashed c.args.text.now found.0 found.1 found.2)))),
    )

pub returns-in-Some-clause-text : goal.returns-in-Some-clause-text
returns-in-Some-clause-text c =
    let same : c.as_bytes-text.result.now ≡ c.args.text.now = cc (c.as_bytes-text.ensures.value) in
    let text = has_text _ c.in-Some.bytes (c.is_dashed.ensures.0 c.if-not-is_dashed.false) c.in-Some.ensures.is_guid.0 c.in-Some.ensures.some in
    subst (λ (t : List ℕ). IsGuidText t c.in-Some.bytes) same text

pub returns-in-Some-clause-only : goal.returns-in-Some-clause-only
returns-in-Some-clause-only c = λ bytes is e.
    let same : c.as_bytes-text.result.now ≡ c.args.text.now = cc (c.as_bytes-text.ensures.value) in
    let text = has_text _ c.in-Some.bytes (c.is_dashed.ensures.0 c.if-not-is_dashed.false) c.in-Some.ensures.is_guid.0 c.in-Some.ensures.some in
    guid_once bytes c.in-Some.bytes is c.in-Some.ensures.is_guid (sym e ∙ subst (λ (t : List ℕ). IsGuidText t c.in-Some.bytes) same text)

pub returns-in-Some-clause-accepts : goal.returns-in-Some-clause-accepts
returns-in-Some-clause-accepts c =
    let same : c.as_bytes-text.result.now ≡ c.args.text.now = cc (c.as_bytes-text.ensures.value) in
    let text = has_text _ c.in-Some.bytes (c.is_dashed.ensures.0 c.if-not-is_dashed.false) c.in-Some.ensures.is_guid.0 c.in-Some.ensures.some in
    (λ _. (c.in-Some.bytes, c.in-Some.ensures.is_guid, subst (λ (t : List ℕ). IsGuidText t c.in-Some.bytes) same text), λ _. refl)

pub returns-in-None-clause-accepts : goal.returns-in-None-clause-accepts
returns-in-None-clause-accepts c =
    let same : c.args.text.now ≡ c.as_bytes-text.result.now = cc (c.as_bytes-text.ensures.value) in (
      λ e. absurd (cc e),
      λ found. absurd (c.in-None.ensures.none found.0 found.1
          (subst (λ (t : List ℕ). HasBytes t found.0) same (text_has c.args.text.now found.0 found.1 found.2))),
    )
