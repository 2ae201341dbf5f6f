-- What stands after the header is a description and a file path list, or is refused.
use Rattle.std.proofs.Common.{◌≡◌, ◌≤◌, ◌≢◌, None, Some, ap, sym, subst, take, drop, length, arith, refl}
use Rattle.uefi_text.specs.PackedStrings.{SplitsUntilNul}
use Rattle.std.proofs.lemmas.Grind.{common_steps}
use Rattle.uefi_text.specs.Units.{nul_terminated, without_nul}
use Rattle.uefi_text.specs.Views.{items_of}
use Rattle.uefi_device_path.specs.LoadOptions.{stated_list_length}
use Rattle.uefi_device_path.specs.LoadOptionParts.{stated_attributes}
use Rattle.uefi_device_path.specs.PathLists.{BreaksAfter, ListRefusedFor, paths_in}
use Rattle.uefi_device_path.specs.Paths.{nodes_in}
use Rattle.uefi_device_path.specs.Views.{entry_of}
use Rattle.uefi_device_path.proofs.Entries.{describes_split, entry_read, none_some, split_described}
use Rattle.uefi_device_path.proofs.load_option.LoadOption.read.Goals as goal

pub returns-in_default-clause-refusal : goal.returns-in_default-clause-refusal
returns-in_default-clause-refusal c =
    let bytes = c.args.bytes.now in
    let long : 6 ≤ length bytes = grind (arith, common_steps) in
    let none : c.split_until_nul.result ≡ None = grind (arith, common_steps) in
    let behind : c.split_at.result.1.now ≡ drop 6 bytes = c.split_at.ensures.back in
    rw c.without_description.ensures (
      long,
      refl,
      λ description rest describes.
          let split = subst (λ k. SplitsUntilNul k (nul_terminated description) rest) (sym behind) (split_described bytes description rest describes) in
          let found = c.split_until_nul.ensures.accepts.1 (nul_terminated description, rest, split) in
          none_some c.split_until_nul.result none found,
    )

pub returns-in-Ok-clause-ok : goal.returns-in-Ok-clause-ok
unfolding entry_of
returns-in-Ok-clause-ok c =
    let bytes = c.args.bytes.now in
    let rest = c.in-Some.rest.now in
    let long : 6 ≤ length bytes = grind (arith, common_steps) in
    let behind : c.split_at.result.1.now ≡ drop 6 bytes = c.split_at.ensures.back in
    let split = subst (λ k. SplitsUntilNul k (items_of c.in-Some.description) rest) behind c.in-Some.ensures.ok in
    let describes = describes_split bytes (items_of c.in-Some.description) rest long split in
    entry_read bytes (without_nul (items_of c.in-Some.description)) rest _ (λ k. omega (arith, c.type_inv.bytes k)) describes (grind (arith, common_steps)) refl
    (grind (arith, common_steps)) (grind (arith, common_steps))

pub returns-in-Err-clause-refusal : goal.returns-in-Err-clause-refusal
returns-in-Err-clause-refusal c =
    let bytes = c.args.bytes.now in
    let rest = c.in-Some.rest.now in
    let long : 6 ≤ length bytes = grind (arith, common_steps) in
    let behind : c.split_at.result.1.now ≡ drop 6 bytes = c.split_at.ensures.back in
    let split = subst (λ k. SplitsUntilNul k (items_of c.in-Some.description) rest) behind c.in-Some.ensures.ok in
    let stated : stated_list_length bytes ≡ c.from_le_bytes-list_length.result = grind (arith, common_steps) in
    let fits : stated_list_length bytes ≤ length rest = grind (arith, common_steps) in
    let some : stated_list_length bytes ≢ 0 = λ e. grind (arith, common_steps) in
    let refused : ListRefusedFor (take (stated_list_length bytes) rest) c.in-Err.fault.error = grind (arith, common_steps) in
    rw c.before-in-Err.ensures (
      without_nul (items_of c.in-Some.description),
      rest,
      c.in-Err.fault.error,
      record {
        describes = describes_split bytes (items_of c.in-Some.description) rest long split;
        some = some;
        fits = fits;
        refused = refused;
        cause = refl;
        offset = grind (arith, common_steps);
      },
    )

pub returns-in-Err-clause-well : goal.returns-in-Err-clause-well
returns-in-Err-clause-well c =
    let bytes = c.args.bytes.now in
    let rest = c.in-Some.rest.now in
    let fault = c.in-Err.fault in
    let long : 6 ≤ length bytes = grind (arith, common_steps) in
    let behind : c.split_at.result.1.now ≡ drop 6 bytes = c.split_at.ensures.back in
    let split = subst (λ k. SplitsUntilNul k (items_of c.in-Some.description) rest) behind c.in-Some.ensures.ok in
    let stated : stated_list_length bytes ≡ c.from_le_bytes-list_length.result = grind (arith, common_steps) in
    let attributes : c.from_le_bytes-attributes.result ≡ stated_attributes bytes = grind (arith, common_steps) in
    let breaks : BreaksAfter (take (stated_list_length bytes) rest) (paths_in fault.paths.now) (nodes_in fault.nodes.now) fault.error.cause =
    grind (arith, common_steps) in
    rw c.before-in-Err.ensures (
      without_nul (items_of c.in-Some.description),
      rest,
      record {
        attributes = ap Some attributes;
        described = refl;
        describes = describes_split bytes (items_of c.in-Some.description) rest long split;
      },
      breaks,
    )
