use Rattle.std.proofs.Common.{◌≡◌, ◌-◌, [], length}
use Rattle.uefi_path.specs.SeparatorsLeft.{places_left}
use Rattle.uefi_path.proofs.splitting.separators.Separators.next.Given as goal

-- the same separators are to come, and no bit was set so far
abbrev pub invariant-loop-left : goal.invariant-loop-left
invariant-loop-left l = record {
  same : places_left l.left ≡ places_left l.fn.self;
  none_known : l.left.known.now ≡ [];
}

abbrev pub decreases-loop-left : goal.decreases-loop-left
decreases-loop-left l = length l.left.units.now - l.left.end
