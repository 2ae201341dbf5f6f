use Rattle.std.proofs.Common.{◌≡◌, ℕ, ◌<◌, true, get_or, refl, arith}
use Rattle.uefi_device_nodes.specs.Table.{group_forms}
use Rattle.uefi_device_nodes.proofs.Groups.{all_groups}
use Rattle.uefi_node_reader.specs.FirstLetters.{all_begin_in}
use Rattle.uefi_device_nodes.specs.declared.node_table.packed.TheConstants.{FIRST_LETTERS}
use Rattle.uefi_node_reader.proofs.exact.first_letters.first_letters.Goals as goal

letters_begin : (index : ℕ) → index < 16 → all_begin_in (get_or FIRST_LETTERS index 0) (group_forms index) ≡ true
unfolding group_forms
letters_begin = all_groups (λ k. all_begin_in (get_or FIRST_LETTERS k 0) (group_forms k)) refl

pub returns : goal.returns
returns c = letters_begin c.args.index (omega (arith, c.requires))
