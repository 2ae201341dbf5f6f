use Rattle.std.proofs.Common.{◌≡◌, ◌++◌}
use Rattle.uefi_text.proofs.strings.owned_strs.CString16.extend.Given as goal

-- the characters so far are added
abbrev pub invariant-loop-character : goal.invariant-loop-character
invariant-loop-character g l = l.self ≡ l.fn.self ++ l.yielded
