use Rattle.std.proofs.Common.{◌∙◌}
use Rattle.uefi_path.proofs.Joining.{pushed-pushed, pushed-nil, with_separators-plain}
use Rattle.uefi_path.proofs.laws.join_monoid.Goals as goal

pub returns-clause-associative : goal.returns-clause-associative
returns-clause-associative c first second third plain = pushed-pushed first second third plain

pub returns-clause-before : goal.returns-clause-before
returns-clause-before c text plain = pushed-nil text ∙ with_separators-plain text plain
