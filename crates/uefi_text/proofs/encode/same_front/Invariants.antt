use Rattle.std.proofs.Common.{◌≡◌, ◌≢◌, ◌≤◌, ◌-◌, ◌++◌, All, length, take}
use Rattle.std.specs.Str.{chars, IsUtf8}
use Rattle.uefi_text.proofs.encode.same_front.Given as goal

abbrev pub decreases-loop-end : goal.decreases-loop-end
decreases-loop-end l = length l.units - l.end

-- the first characters of the text are the units so far, without NUL
abbrev pub invariant-loop-end : goal.invariant-loop-end
invariant-loop-end l = record {
  within : l.end ≤ length l.units;
  utf8 : IsUtf8 l.rest;
  same : chars l.text ≡ take l.end l.units ++ chars l.rest;
  no_nul : All (λ unit. unit ≢ 0) (take l.end l.units);
}
