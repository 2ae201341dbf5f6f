-- A caller sees what became of what a call writes.
use Rattle.std.proofs.Common.{◌≡◌, ◌∙◌, ap, sym, refl, subst, ℕ, ◌<◌, ◌^◌, ◌-◌, min, Bool, true, false, nat_lt, if◌then◌else◌, List, [], ◌∷◌, ◌++◌, drop, length, Option, None, Some, Result, Ok, Err, arith}
use Rattle.std.proofs.lemmas.Grind.{common_steps}
use Rattle.std.specs.Prelude.{IfOk}
use Rattle.std.specs.Result.{result_err, result_map_both}
use Rattle.uefi_text.specs.UnalignedCStr16.{with_prefix}
use Rattle.uefi_text.specs.UnitTexts.{places_needed, written_len}
use Rattle.uefi_text.specs.Units.{nul_terminated}
use Rattle.uefi_text.specs.declared.unit_sink.BufferTooSmall.{BufferTooSmall}
use Rattle.uefi_device_path.proofs.Entries.{same_entry}
use Rattle.uefi_device_path.specs.Building.{grow_refusal, room_refusal}
use Rattle.uefi_device_path.specs.LoadOptions.{Entry, entry_bytes}
use Rattle.uefi_device_path.specs.Nodes.{Node}
use Rattle.uefi_device_path.specs.OptionBuilding.{room_fault, written_where}
use Rattle.uefi_device_path.specs.PushedPaths.{Leaves, bytes_unless, once_read}
use Rattle.uefi_device_path.specs.declared.errors.BuildError.{BuildError}
use Rattle.uefi_device_path.specs.declared.errors.BuildError.TheVariants as build
use Rattle.uefi_device_path.specs.declared.errors.DevicePathError.{DevicePathError}
use Rattle.uefi_device_path.specs.declared.errors.GrowError.{GrowError}
use Rattle.uefi_device_path.specs.declared.errors.GrowError.TheVariants.{Path}
use Rattle.uefi_device_path.specs.declared.errors.OptionBuildError.{OptionBuildError}
use Rattle.uefi_device_path.specs.declared.text.text_errors.PushTextError.{PushTextError}
use Rattle.uefi_device_path.specs.declared.text.text_errors.PushTextError.TheVariants as push
use Rattle.uefi_device_path.specs.declared.text.text_errors.PushTextError.TheVariants.{NoNode}
use Rattle.uefi_device_path.specs.declared.text.text_errors.TextFault.{TextFault}
use Rattle.nardcorbel.specs.DevicePathBuffers.{entry_of_path}
use Rattle.nardcorbel.specs.Outcomes.{Shows, ShowsNumber, too_small, when_read, unless}
use Rattle.nardcorbel.specs.Outcomes.Outcome.{Content, Number, Refused, Text}
use Rattle.nardcorbel.specs.PathEnds.{room_or}
use Rattle.nardcorbel.specs.Refusals.{grow_refused, option_refused, path_refusal, room_refused}
use Rattle.nardcorbel.specs.declared.outcomes.Refusal.{Refusal}
use Rattle.nardcorbel.specs.declared.reasons.TheConstants.{BUFFER_TOO_SMALL, OK}

-- what a call reports of what it gives
abbrev pub Reports : {E : Type 0} → (E → Refusal) → Result ℕ E → ℕ → ℕ → ℕ → ℕ → ℕ → Type 0
Reports refusal given before wrong returned len fault =
    ShowsNumber (when_read (result_map_both (λ (n : ℕ). n) refusal given) Number) before wrong returned len fault

-- a text that was written with its NUL, or had no room
pub text_shown : (text old new : List ℕ) (given : Result ℕ BufferTooSmall) (before wrong returned len fault : ℕ) → length old < 2 ^ 64
    → given ≡ written_len text old → new ≡ with_prefix (nul_terminated text) old → Reports room_refused given before wrong returned len fault
    → Shows (Text text) before wrong old returned len fault new
text_shown text old new given before wrong returned len fault small is wrote shown =
    by (nat_lt (length text) (length old)) refl (subst (λ r. Reports room_refused r before wrong returned len fault) is shown)
  where
    by : (room : Bool) → nat_lt (length text) (length old) ≡ room
        → Reports room_refused (if room then Ok (length text) else Err (record { 0 = places_needed text })) before wrong returned len fault
        → Shows (Text text) before wrong old returned len fault new
    by true e said = record { reason = grind (arith, common_steps, said.reason); len = grind (arith, common_steps, said.len); fault = said.fault; buffer = wrote }
    by false e said = record { reason = grind (arith, common_steps, said.reason); len = grind (arith, common_steps, said.len); fault = said.fault; buffer = wrote }

-- the same of a call that finds no fault
pub text_written : (text old new : List ℕ) (given : Result ℕ BufferTooSmall) (before returned len : ℕ) → length old < 2 ^ 64
    → given ≡ written_len text old → new ≡ with_prefix (nul_terminated text) old
    → ((fault : ℕ) → Reports room_refused given before fault returned len fault) → (fault : ℕ) → Shows (Text text) before fault old returned len fault new
text_written text old new given before returned len small is wrote shown fault =
    text_shown text old new given before fault returned len fault small is wrote (shown fault)

-- bytes that a call leaves in a buffer that has room for them, or the error that says how many they are
pub content_left : {E : Type 0} (refused : E → Refusal) (error : E) (content old new : List ℕ) (count : ℕ) (given : Result ℕ E) (before wrong returned len fault : ℕ)
    → refused error ≡ too_small count → length old < 2 ^ 63
    → (len ≡ count → count ≡ min (length content) (2 ^ 64 - 1))
    → Leaves (bytes_unless (if nat_lt (length old) (length content) then Some error else None) content) old given new
    → Reports refused given before wrong returned len fault
    → Shows (Content content) before wrong old returned len fault new
content_left refused error content old new count given before wrong returned len fault is room all left shown =
    by (nat_lt (length old) (length content)) refl left
  where
    by : (short : Bool) → nat_lt (length old) (length content) ≡ short → Leaves (bytes_unless (if short then Some error else None) content) old given new
        → Shows (Content content) before wrong old returned len fault new
    by true e (gave, kept) =
        let there = subst (λ r. Reports refused r before wrong returned len fault) gave shown in
        let reported = subst (λ r. ShowsNumber (Refused r) before wrong returned len fault) is there in
        record {
          reason = reported.reason ∙ ap (λ short. if short then BUFFER_TOO_SMALL else OK) (sym e);
          len = reported.len ∙ all reported.len;
          fault = reported.fault;
          buffer = kept ∙ ap (λ short. if short then old else content ++ drop (length content) old) (sym e);
        }
    by false e (gave, wrote) =
        let there = subst (λ r. Reports refused r before wrong returned len fault) gave shown in
        record {
          reason = there.reason ∙ ap (λ short. if short then BUFFER_TOO_SMALL else OK) (sym e);
          len = grind (arith, common_steps, there.len);
          fault = there.fault;
          buffer = wrote;
        }

-- why bytes are not written where their place has no end node, or the buffer no room, or none
abbrev pub at_refusal : Bool → DevicePathError → Option BuildError → List ℕ → List ℕ → Option GrowError
at_refusal ends missing fault content old =
    if ends then grow_refusal (room_refusal (length content) (length old) fault) else Some (Path missing)

-- bytes that were written where the first ones ended, or were not
pub grown_at : (ends : Bool) (missing : DevicePathError) (refused : Option BuildError) (old new content : List ℕ) (given : Result ℕ GrowError) (before wrong returned len fault : ℕ)
    → len < 2 ^ 64 → Leaves (bytes_unless (at_refusal ends missing refused content old) content) old given new → Reports grow_refused given before wrong returned len fault
    → Shows (unless (at_refusal ends missing refused content old) grow_refused (Content content)) before wrong old returned len fault new
grown_at false missing refused old new content given before wrong returned len fault small (gave, kept) shown =
    let there = subst (λ r. Reports grow_refused r before wrong returned len fault) gave shown in
    record { reason = there.reason; len = there.len; fault = there.fault; buffer = kept }
grown_at true missing (Some error) old new content given before wrong returned len fault small (gave, kept) shown =
    let there = subst (λ r. Reports grow_refused r before wrong returned len fault) gave shown in
    record { reason = there.reason; len = there.len; fault = there.fault; buffer = kept }
grown_at true missing None old new content given before wrong returned len fault small left shown = by (nat_lt (length old) (length content)) refl left
  where
    refused : Bool → Option GrowError
    refused short = grow_refusal (if short then Some (build.BufferTooSmall (length content)) else None)

    by : (short : Bool) → nat_lt (length old) (length content) ≡ short → Leaves (bytes_unless (refused short) content) old given new
        → Shows (unless (refused short) grow_refused (Content content)) before wrong old returned len fault new
    by true e (gave, kept) =
        let there = subst (λ r. Reports grow_refused r before wrong returned len fault) gave shown in
        record { reason = there.reason; len = there.len; fault = there.fault; buffer = kept }
    by false e (gave, wrote) =
        let there = subst (λ r. Reports grow_refused r before wrong returned len fault) gave shown in
        record { reason = grind (arith, common_steps, there.reason); len = grind (arith, common_steps, there.len); fault = there.fault; buffer = wrote }

-- the path of a text's nodes was written, or why it was not
module _ (refused : PushTextError → Refusal) (small : (needed : ℕ) → refused (push.BufferTooSmall needed) ≡ too_small needed)
    (old new : List ℕ) (content : List Node → List ℕ) where
  pub read_shown : (read : Result (List Node) TextFault) (given : Result ℕ PushTextError) (before wrong returned len fault : ℕ)
      → length old < 2 ^ 63
      → Leaves (once_read NoNode read (λ nodes. bytes_unless (room_or (content nodes) old) (content nodes))) old given new
      → Reports refused given before wrong returned len fault
      → Shows (when_read (result_map_both (λ ns. ns) (λ fault. refused (NoNode fault)) read) (λ nodes. Content (content nodes))) before wrong old returned len fault new
  read_shown (Err found) given before wrong returned len fault room (gave, kept) shown =
      let there = subst (λ r. Reports refused r before wrong returned len fault) gave shown in
      record { reason = there.reason; len = there.len; fault = there.fault; buffer = kept }
  read_shown (Ok nodes) given before wrong returned len fault room left shown =
      content_left refused (push.BufferTooSmall (min (length (content nodes)) (2 ^ 64 - 1))) (content nodes) old new
      (min (length (content nodes)) (2 ^ 64 - 1)) given before wrong returned len fault
      (small (min (length (content nodes)) (2 ^ 64 - 1))) room (λ is. refl) left shown

  -- the same where the path in the buffer may have no end
  pub pushed_shown : (ends : Bool) (missing : DevicePathError) (read : Result (List Node) TextFault) (given : Result ℕ PushTextError) (before wrong returned len fault : ℕ)
      → refused (push.Path missing) ≡ path_refusal missing → length old < 2 ^ 63
      → Leaves (if ends then once_read NoNode read (λ nodes. bytes_unless (room_or (content nodes) old) (content nodes)) else Err (push.Path missing)) old given new
      → Reports refused given before wrong returned len fault
      → Shows (if ends then when_read (result_map_both (λ ns. ns) (λ fault. refused (NoNode fault)) read) (λ nodes. Content (content nodes))
      else Refused (path_refusal missing)) before wrong old returned len fault new
  pushed_shown true missing read given before wrong returned len fault is room left shown = read_shown read given before wrong returned len fault room left shown
  pushed_shown false missing read given before wrong returned len fault is room (gave, kept) shown =
      let there = subst (λ r. Reports refused r before wrong returned len fault) gave shown in
      let reported = subst (λ r. ShowsNumber (Refused r) before wrong returned len fault) is there in
      record { reason = reported.reason; len = reported.len; fault = reported.fault; buffer = kept }

-- a load option that was written, or why it was not
pub entry_by : (entry : Entry) (fault : Option OptionBuildError) (old new : List ℕ) (given : Result ℕ OptionBuildError) (before wrong returned len_now fault_now : ℕ) → len_now < 2 ^ 64
    → result_err given ≡ room_fault (entry_bytes entry) (length old) fault
    → IfOk given (λ len. len ≡ length (entry_bytes entry)) → new ≡ written_where (entry_bytes entry) old fault
    → Reports option_refused given before wrong returned len_now fault_now
    → Shows (unless fault option_refused (Content (entry_bytes entry))) before wrong old returned len_now fault_now new
entry_by entry (Some error) old new (Ok len) before wrong returned len_now fault_now small refusal len_is wrote shown = absurd (cc)
entry_by entry (Some error) old new (Err other) before wrong returned len_now fault_now small refusal len_is wrote shown =
    let same : other ≡ error = cc in
    let there = subst (λ e. Reports option_refused (Err e) before wrong returned len_now fault_now) same shown in
    record { reason = there.reason; len = there.len; fault = there.fault; buffer = wrote }
entry_by entry None old new (Ok len) before wrong returned len_now fault_now small refusal len_is wrote shown =
    record { reason = grind (arith, common_steps); len = grind (arith, common_steps); fault = shown.fault; buffer = wrote }
entry_by entry None old new (Err error) before wrong returned len_now fault_now small refusal len_is wrote shown =
    record { reason = grind (arith, common_steps); len = grind (arith, common_steps); fault = grind (arith, common_steps, shown.fault); buffer = wrote }

-- the load option of these fields
pub fields_are : (entry : Entry) (attributes : ℕ) (description : List ℕ) (nodes : List Node) (optional : List ℕ)
    → entry.attributes ≡ attributes → entry.description ≡ description → entry.paths ≡ nodes ∷ [] → entry.optional ≡ optional
    → entry ≡ entry_of_path attributes description nodes optional
fields_are entry attributes description nodes optional a d p o =
    same_entry entry.attributes attributes entry.description description entry.paths (nodes ∷ []) entry.optional optional a d p o
