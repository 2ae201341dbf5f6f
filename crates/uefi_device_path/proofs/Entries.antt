-- Bytes are one load option at most, are refused for one error at most, and never both.
use Rattle.std.proofs.Common.{◌≡◌, ◌≢◌, ◌∙◌, ap, sym, refl, subst, ℕ, ◌+◌, ◌*◌, ◌/◌, ◌%◌, ◌<◌, ◌≤◌, List, [], ◌∷◌, ◌++◌, All, length, take, drop, slice_index, Option, None, Some, length-append, arith}
use Rattle.std.specs.Prelude.{IsSome}
use Rattle.std.proofs.lemmas.List.{take_at}
use Rattle.uefi_text.proofs.PackedStrings.{bytes_once}
use Rattle.uefi_text.proofs.Texts.{without_nul-nul_terminated}
use Rattle.uefi_text.specs.PackedStrings.{SplitsUntilNul}
use Rattle.uefi_text.specs.UnitBytes.{unit_bytes}
use Rattle.uefi_text.specs.Units.{nul_terminated, without_nul}
use Rattle.uefi_device_nodes.specs.Nodes.{Node}
use Rattle.uefi_device_path.specs.PathLists.{ListRefusedFor, list_bytes, paths_in}
use Rattle.uefi_device_path.specs.LoadOptions.{Describes, Entry, EntryRefusedFor, IsEntry, IsWrong, RefusesPaths, entry_bytes, stated_list_length}
use Rattle.uefi_device_path.specs.declared.errors.DevicePathError.{DevicePathError}
use Rattle.uefi_device_nodes.specs.declared.errors.NodeError.{NodeError}
use Rattle.uefi_device_path.specs.declared.errors.LoadOptionCause.{LoadOptionCause}
use Rattle.uefi_device_path.specs.declared.errors.LoadOptionCause.TheVariants.{TooShort, DescriptionWithoutEnd, ListBeyondEnd, EmptyList, FilePathList}
use Rattle.uefi_device_path.specs.declared.errors.LoadOptionError.{LoadOptionError}
use Rattle.uefi_device_path.proofs.Splits.{front_same}
use Rattle.uefi_device_path.proofs.Lists.{list_refused_no_paths, list_refused_once, no_path_bytes, paths_in-list_bytes}

-- units up to a NUL are a description, and a description is units up to a NUL
pub describes_split : (bytes units rest : List ℕ) → 6 ≤ length bytes → SplitsUntilNul (drop 6 bytes) units rest
    → Describes bytes (without_nul units) rest
describes_split bytes units rest long split =
    record { header = long; no_nul = split.ends.1; join = split.join ∙ ap (λ us. unit_bytes us ++ rest) split.ends.0 }

pub split_described : (bytes description rest : List ℕ) → Describes bytes description rest
    → SplitsUntilNul (drop 6 bytes) (nul_terminated description) rest
split_described bytes description rest describes =
    let same = without_nul-nul_terminated description in
    let P : List ℕ → Type 0 = All (λ u. u ≢ 0) in
    record { ends = (ap nul_terminated (sym same), subst P (sym same) describes.no_nul); join = describes.join }

-- load options of the same parts are the same
pub same_entry : (a b : ℕ) (d e : List ℕ) (p q : List (List Node)) (o r : List ℕ) → a ≡ b → d ≡ e → p ≡ q → o ≡ r
    → (let x : Entry = record { attributes = a; description = d; paths = p; optional = o } in x)
    ≡ (let y : Entry = record { attributes = b; description = e; paths = q; optional = r } in y)
same_entry a b d e p q o r attributes descriptions paths optionals = cc

-- no bytes are two load options
pub entry_once : (e f : Entry) → IsEntry e → IsEntry f → entry_bytes e ≡ entry_bytes f → e ≡ f
entry_once e f e_is f_is same =
    let a0 : e.attributes % 256 ≡ f.attributes % 256 = cc in
    let a1 : e.attributes / 256 % 256 ≡ f.attributes / 256 % 256 = cc in
    let a2 : e.attributes / 65536 % 256 ≡ f.attributes / 65536 % 256 = cc in
    let a3 : e.attributes / 16777216 ≡ f.attributes / 16777216 = cc in
    let attributes : e.attributes ≡ f.attributes = omega arith in
    let l0 : length (list_bytes e.paths) % 256 ≡ length (list_bytes f.paths) % 256 = cc in
    let l1 : length (list_bytes e.paths) / 256 ≡ length (list_bytes f.paths) / 256 = cc in
    let long : length (list_bytes e.paths) ≡ length (list_bytes f.paths) = omega arith in
    let tails : unit_bytes (nul_terminated e.description) ++ (list_bytes e.paths ++ e.optional)
    ≡ unit_bytes (nul_terminated f.description) ++ (list_bytes f.paths ++ f.optional) = cc in
    let texts = bytes_once e.description f.description _ _ e_is.no_nul f_is.no_nul tails in
    let lists = front_same (list_bytes e.paths) (list_bytes f.paths) e.optional f.optional long texts.1 in
    let paths : e.paths ≡ f.paths = sym (paths_in-list_bytes e.paths e_is.are_paths) ∙ ap paths_in lists.0 ∙ paths_in-list_bytes f.paths f_is.are_paths in
    same_entry e.attributes f.attributes e.description f.description e.paths f.paths e.optional f.optional attributes texts.0 paths lists.1

-- what stands after the description of bytes that are a load option
described : (bytes description rest : List ℕ) (entry : Entry) → Describes bytes description rest → IsEntry entry → bytes ≡ entry_bytes entry
    → rest ≡ list_bytes entry.paths ++ entry.optional
described bytes description rest entry describes is_entry e =
    (bytes_once description entry.description rest (list_bytes entry.paths ++ entry.optional) describes.no_nul is_entry.no_nul
    (sym describes.join ∙ ap (drop 6) e)).1

stated_right : (bytes : List ℕ) (entry : Entry) → bytes ≡ entry_bytes entry → stated_list_length bytes ≡ length (list_bytes entry.paths)
stated_right bytes entry e = ap stated_list_length e ∙ omega arith

entry_describes : (bytes : List ℕ) (entry : Entry) → IsEntry entry → bytes ≡ entry_bytes entry
    → Describes bytes entry.description (list_bytes entry.paths ++ entry.optional)
entry_describes bytes entry is_entry e =
    let long : length bytes ≡ length (entry_bytes entry) = ap length e in
    record { header = omega (arith, long); no_nul = is_entry.no_nul; join = ap (drop 6) e }

no_list : (paths : List (List Node)) → length (list_bytes paths) ≡ 0 → paths ≡ []
no_list [] none = refl
no_list (path ∷ paths) none = absurd (no_path_bytes path paths none)

wrong_no_entry : (bytes : List ℕ) (cause : LoadOptionCause) (offset : ℕ) → IsWrong bytes cause offset
    → (entry : Entry) → IsEntry entry → bytes ≡ entry_bytes entry → ⊥
wrong_no_entry bytes TooShort offset wrong entry is_entry e =
    let header = (entry_describes bytes entry is_entry e).header in
    omega (arith, wrong.0, header)
wrong_no_entry bytes DescriptionWithoutEnd offset wrong entry is_entry e =
    wrong.2 entry.description (list_bytes entry.paths ++ entry.optional) (entry_describes bytes entry is_entry e)
wrong_no_entry bytes ListBeyondEnd offset wrong entry is_entry e =
    let rest = described bytes wrong.0 wrong.1 entry wrong.2 is_entry e in
    let stated = stated_right bytes entry e in
    let long : length wrong.1 ≡ length (list_bytes entry.paths) + length entry.optional = ap length rest ∙ length-append (list_bytes entry.paths) entry.optional in
    omega (arith, wrong.3)
wrong_no_entry bytes EmptyList offset wrong entry is_entry e =
    is_entry.some (no_list entry.paths (sym (stated_right bytes entry e) ∙ wrong.3))
wrong_no_entry bytes (FilePathList cause) offset wrong entry is_entry e =
    let why = wrong.3 in
    let rest = described bytes wrong.0 wrong.1 entry why.describes is_entry e in
    let stated = stated_right bytes entry e in
    let list : take (stated_list_length bytes) wrong.1 ≡ list_bytes entry.paths =
    ap (λ n. take n wrong.1) stated ∙ ap (take (length (list_bytes entry.paths))) rest ∙ take_at (list_bytes entry.paths) entry.optional (length (list_bytes entry.paths)) refl in
    list_refused_no_paths _ wrong.2 why.refused entry.paths is_entry.are_paths is_entry.some list

pub entry_refused : (bytes : List ℕ) (error : LoadOptionError) → EntryRefusedFor bytes error
    → (entry : Entry) → IsEntry entry → bytes ≡ entry_bytes entry → ⊥
entry_refused bytes error wrong = wrong_no_entry bytes error.cause error.offset wrong

-- bytes have one description at most
rest_once : (bytes d r f s : List ℕ) → Describes bytes d r → Describes bytes f s → r ≡ s
rest_once bytes d r f s one other = (bytes_once d f r s one.no_nul other.no_nul (sym one.join ∙ other.join)).1

same_offset : (c d : NodeError) (m n : ℕ) → c ≡ d → m ≡ n → (FilePathList c ≡ FilePathList d) × (m ≡ n)
same_offset c d m n causes offsets = (cc, offsets)

-- the file path list is refused for one node at most
paths_once : (bytes d r f s : List ℕ) (error inside other within : DevicePathError) → RefusesPaths bytes d r error inside
    → RefusesPaths bytes f s other within → (other.cause ≡ error.cause) × (other.offset ≡ error.offset)
paths_once bytes d r f s error inside other within one two =
    let rests : r ≡ s = rest_once bytes d r f s one.describes two.describes in
    let moved = subst (λ (k : List ℕ). ListRefusedFor (take (stated_list_length bytes) k) within) (sym rests) two.refused in
    let same : within ≡ inside = list_refused_once _ inside within one.refused moved in
    let causes : within.cause ≡ inside.cause = ap (λ e. e.cause) same in
    let offsets : within.offset ≡ inside.offset = ap (λ e. e.offset) same in
    let long : length r ≡ length s = ap length rests in
    (two.cause ∙ causes ∙ sym one.cause, omega (arith, one.offset, two.offset, offsets, long))

header_there : (bytes : List ℕ) (cause : LoadOptionCause) (offset : ℕ) → IsWrong bytes cause offset → length bytes < 6 → cause ≡ TooShort
header_there bytes TooShort offset wrong short = refl
header_there bytes DescriptionWithoutEnd offset wrong short = absurd (omega (arith, wrong.0, short))
header_there bytes ListBeyondEnd offset wrong short = let header = wrong.2.header in absurd (omega (arith, header, short))
header_there bytes EmptyList offset wrong short = let header = wrong.2.header in absurd (omega (arith, header, short))
header_there bytes (FilePathList cause) offset wrong short = let header = wrong.3.describes.header in absurd (omega (arith, header, short))

-- bytes are wrong in one way at most
wrong_once : (bytes : List ℕ) (cause other : LoadOptionCause) (m n : ℕ) → IsWrong bytes cause m → IsWrong bytes other n
    → (other ≡ cause) × (n ≡ m)
wrong_once bytes TooShort TooShort m n one two = (refl, two.1 ∙ sym one.1)
wrong_once bytes TooShort DescriptionWithoutEnd m n one two = absurd (cc (header_there bytes DescriptionWithoutEnd n two one.0))
wrong_once bytes TooShort ListBeyondEnd m n one two = absurd (cc (header_there bytes ListBeyondEnd n two one.0))
wrong_once bytes TooShort EmptyList m n one two = absurd (cc (header_there bytes EmptyList n two one.0))
wrong_once bytes TooShort (FilePathList c) m n one two = absurd (cc (header_there bytes (FilePathList c) n two one.0))
wrong_once bytes DescriptionWithoutEnd TooShort m n one two = absurd (omega (arith, one.0, two.0))
wrong_once bytes DescriptionWithoutEnd DescriptionWithoutEnd m n one two = (refl, two.1 ∙ sym one.1)
wrong_once bytes DescriptionWithoutEnd ListBeyondEnd m n one two = absurd (one.2 two.0 two.1 two.2)
wrong_once bytes DescriptionWithoutEnd EmptyList m n one two = absurd (one.2 two.0 two.1 two.2)
wrong_once bytes DescriptionWithoutEnd (FilePathList c) m n one two = absurd (one.2 two.0 two.1 two.3.describes)
wrong_once bytes ListBeyondEnd TooShort m n one two = absurd (cc (header_there bytes ListBeyondEnd m one two.0))
wrong_once bytes ListBeyondEnd DescriptionWithoutEnd m n one two = absurd (two.2 one.0 one.1 one.2)
wrong_once bytes ListBeyondEnd ListBeyondEnd m n one two = (refl, two.4 ∙ sym one.4)
wrong_once bytes ListBeyondEnd EmptyList m n one two = absurd (omega (arith, one.3, two.3))
wrong_once bytes ListBeyondEnd (FilePathList c) m n one two =
    let long : length one.1 ≡ length two.1 = ap length (rest_once bytes one.0 one.1 two.0 two.1 one.2 two.3.describes) in
    let fits = two.3.fits in
    absurd (omega (arith, one.3, fits, long))
wrong_once bytes EmptyList TooShort m n one two = absurd (cc (header_there bytes EmptyList m one two.0))
wrong_once bytes EmptyList DescriptionWithoutEnd m n one two = absurd (two.2 one.0 one.1 one.2)
wrong_once bytes EmptyList ListBeyondEnd m n one two = absurd (omega (arith, one.3, two.3))
wrong_once bytes EmptyList EmptyList m n one two =
    let long : length one.1 ≡ length two.1 = ap length (rest_once bytes one.0 one.1 two.0 two.1 one.2 two.2) in
    (refl, omega (arith, one.4, two.4, long))
wrong_once bytes EmptyList (FilePathList c) m n one two = absurd (two.3.some one.3)
wrong_once bytes (FilePathList c) TooShort m n one two = absurd (cc (header_there bytes (FilePathList c) m one two.0))
wrong_once bytes (FilePathList c) DescriptionWithoutEnd m n one two = absurd (two.2 one.0 one.1 one.3.describes)
wrong_once bytes (FilePathList c) ListBeyondEnd m n one two =
    let long : length one.1 ≡ length two.1 = ap length (rest_once bytes one.0 one.1 two.0 two.1 one.3.describes two.2) in
    let fits = one.3.fits in
    absurd (omega (arith, two.3, fits, long))
wrong_once bytes (FilePathList c) EmptyList m n one two = absurd (one.3.some two.3)
wrong_once bytes (FilePathList c) (FilePathList d) m n one two =
    let both = paths_once bytes one.0 one.1 two.0 two.1 _ one.2 _ two.2 one.3 two.3 in
    same_offset d c n m both.0 both.1

same_error : (c d : LoadOptionCause) (m n : ℕ) → c ≡ d → m ≡ n
    → (let e : LoadOptionError = record { cause = c; offset = m } in e)
    ≡ (let f : LoadOptionError = record { cause = d; offset = n } in f)
same_error c d m n causes offsets = cc

pub entry_refused_once : (bytes : List ℕ) (error other : LoadOptionError) → EntryRefusedFor bytes error → EntryRefusedFor bytes other → other ≡ error
entry_refused_once bytes error other one two =
    let both = wrong_once bytes error.cause other.cause error.offset other.offset one two in
    same_error other.cause error.cause other.offset error.offset both.0 both.1

six_bytes : (bytes : List ℕ) → 6 ≤ length bytes
    → bytes ≡ slice_index bytes 0 ∷ slice_index bytes 1 ∷ slice_index bytes 2 ∷ slice_index bytes 3 ∷ slice_index bytes 4 ∷ slice_index bytes 5 ∷ drop 6 bytes
six_bytes [] long = absurd (omega (arith, long))
six_bytes (a ∷ []) long = absurd (omega (arith, long))
six_bytes (a ∷ b ∷ []) long = absurd (omega (arith, long))
six_bytes (a ∷ b ∷ c ∷ []) long = absurd (omega (arith, long))
six_bytes (a ∷ b ∷ c ∷ d ∷ []) long = absurd (omega (arith, long))
six_bytes (a ∷ b ∷ c ∷ d ∷ e ∷ []) long = absurd (omega (arith, long))
six_bytes (a ∷ b ∷ c ∷ d ∷ e ∷ f ∷ bytes) long = refl

-- what the header says, a description, a list and what follows are a load option
pub entry_read : (bytes description rest : List ℕ) (entry : Entry) → ((k : ℕ) → slice_index bytes k < 256) → Describes bytes description rest
    → entry.attributes ≡ slice_index bytes 0 + 256 * slice_index bytes 1 + 65536 * slice_index bytes 2 + 16777216 * slice_index bytes 3
    → entry.description ≡ description → length (list_bytes entry.paths) ≡ stated_list_length bytes
    → rest ≡ list_bytes entry.paths ++ entry.optional → bytes ≡ entry_bytes entry
entry_read bytes description rest entry small describes attributes same long tail =
    let s0 = small 0 in
    let s1 = small 1 in
    let s2 = small 2 in
    let s3 = small 3 in
    let s4 = small 4 in
    let s5 = small 5 in
    let a0 : slice_index bytes 0 ≡ entry.attributes % 256 = omega arith in
    let a1 : slice_index bytes 1 ≡ entry.attributes / 256 % 256 = omega arith in
    let a2 : slice_index bytes 2 ≡ entry.attributes / 65536 % 256 = omega arith in
    let a3 : slice_index bytes 3 ≡ entry.attributes / 16777216 = omega arith in
    let l0 : slice_index bytes 4 ≡ length (list_bytes entry.paths) % 256 = omega arith in
    let l1 : slice_index bytes 5 ≡ length (list_bytes entry.paths) / 256 = omega arith in
    let back : drop 6 bytes ≡ unit_bytes (nul_terminated entry.description) ++ (list_bytes entry.paths ++ entry.optional) =
    describes.join ∙ ap (λ k. unit_bytes (nul_terminated description) ++ k) tail ∙ ap (λ d. unit_bytes (nul_terminated d) ++ (list_bytes entry.paths ++ entry.optional)) (sym same) in
    six_bytes bytes describes.header ∙ rw (a0, a1, a2, a3, l0, l1, back) refl

pub none_some : {A : Type 0} (found : Option A) → found ≡ None → IsSome found → ⊥
none_some None e some = absurd (cc some)
none_some (Some x) e some = absurd (cc e)
