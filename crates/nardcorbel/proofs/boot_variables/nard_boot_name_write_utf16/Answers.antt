-- No other kind has the number of a kind.
use Rattle.std.proofs.Common.{◌≡◌, ◌∙◌, ◌≤◌, ◌<◌, ◌^◌, ◌++◌, ℕ, List, ap, arith, length, length-append, subst}
use Rattle.std.proofs.lemmas.Grind.{common_steps}
use Rattle.uefi_boot_variables.specs.Names.{four_digits, name_text, word_of}
use Rattle.uefi_boot_variables.specs.declared.variable_names.LoadOptionKind.{LoadOptionKind}
use Rattle.uefi_boot_variables.specs.declared.variable_names.LoadOptionKind.TheVariants.{Boot, Driver, SysPrep, PlatformRecovery}
use Rattle.uefi_boot_variables.specs.declared.variable_names.LoadOptionName.{LoadOptionName}
use Rattle.nardcorbel.proofs.KindNumbers.{at_most}
use Rattle.nardcorbel.specs.Outcomes.{Shows}
use Rattle.nardcorbel.specs.Outcomes.Outcome.{Text}
use Rattle.nardcorbel.proofs.CallOutputs.{text_written}
use Rattle.nardcorbel.proofs.boot_variables.nard_boot_name_write_utf16.Goals as goal

short : (name : LoadOptionName) → length (name_text name) < 2 ^ 63
short name = omega (arith, length-append (word_of name.kind) (four_digits name.number), word name.kind)
  where
    word : (kind : LoadOptionKind) → length (word_of kind) ≤ 16
    word Boot = omega arith
    word Driver = omega arith
    word SysPrep = omega arith
    word PlatformRecovery = omega arith

pub returns-clause-unknown : goal.returns-clause-unknown
returns-clause-unknown c = λ fault above. absurd (omega (arith, above, at_most c.in-Some.kind, (c.kind_of.ensures c.in-Some.kind).0 c.in-Some.is))

pub returns-clause-name : goal.returns-clause-name
returns-clause-name c = λ fault name kind number.
    let same : c.in-Some.kind ≡ name.kind = cc (c.in-Some.is, (c.kind_of.ensures name.kind).1 kind) in
    let text = ap (λ k. word_of k ++ four_digits c.args.number) same ∙ ap (λ n. word_of name.kind ++ four_digits n) number in
    subst (λ (t : List ℕ). Shows (Text t) c.args.len.now fault c.args.buffer.now c.report_written.result c.report_written.new.len fault c.write_cstr16.new.buffer) text
    (text_written _ c.args.buffer.now _ _ c.args.len.now _ _ (grind (arith, common_steps)) c.write_cstr16.ensures.len c.write_cstr16.ensures.buffer c.report_written.ensures.shows fault)

pub returns-clause-length : goal.returns-clause-length
returns-clause-length c = λ name kind number. omega (arith, (returns-clause-name c 0 name kind number).len, short name)
