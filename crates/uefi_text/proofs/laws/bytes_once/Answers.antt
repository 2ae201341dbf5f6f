use Rattle.std.proofs.Common.{sym, ◌∙◌, refl}
use Rattle.uefi_text.proofs.UnitBytes.{accepted_encodes, encoded_accepted, encoded_apart}
use Rattle.uefi_text.specs.UnitBytes.{unit_bytes}
use Rattle.uefi_text.specs.Units.{nul_terminated}
use Rattle.uefi_text.proofs.laws.bytes_once.Goals as goal

pub returns-clause-encoded : goal.returns-clause-encoded
returns-clause-encoded c text is_text = (unit_bytes (nul_terminated text), (is_text, refl))

pub returns-clause-once : goal.returns-clause-once
returns-clause-once c text bytes other spells other_spells = spells.1 ∙ sym other_spells.1

pub returns-clause-apart : goal.returns-clause-apart
returns-clause-apart c bytes text other spells spells_other = encoded_apart bytes text other spells spells_other

pub returns-clause-accepted : goal.returns-clause-accepted
returns-clause-accepted c bytes are_bytes =
    (accepted_encodes bytes are_bytes, λ spelled. encoded_accepted bytes spelled.0 spelled.1)
