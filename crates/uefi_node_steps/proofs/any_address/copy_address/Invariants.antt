use Rattle.std.proofs.Common.{◌≡◌, ◌≤◌, ◌++◌, length, take}
use Rattle.uefi_node_steps.specs.Leaves.{address_run}
use Rattle.uefi_node_steps.proofs.any_address.copy_address.Given as goal

-- the letters so far, and those that are left
abbrev pub invariant-letters : goal.invariant-letters
invariant-letters g l = record {
  within : l.len ≤ length l.found;
  letters : take l.len l.found ++ (address_run (g.T.Text.codes l.rest)).0 ≡ (address_run (g.T.Text.codes l.fn.text)).0;
  rest : (address_run (g.T.Text.codes l.rest)).1 ≡ (address_run (g.T.Text.codes l.fn.text)).1;
}

abbrev pub decreases-letters : goal.decreases-letters
decreases-letters g l = length (g.T.Text.codes l.rest)
