-- A file path that is written unit by unit.
use Rattle.std.proofs.Common.{◌≡◌, ◌∙◌, ap, sym, refl, subst, inl, inr, ℕ, ◌+◌, ◌-◌, ◌/◌, ◌<◌, ◌≤◌, ◌==◌, Bool, ◌&&◌, false, nat_lt, if◌then◌else◌, List, [], ◌∷◌, ◌++◌, fold, length, get_or, take, drop, append_assoc, arith}
use Rattle.std.proofs.lemmas.Bool.{cases_Bool, lt-ltb}
use Rattle.std.proofs.lemmas.Grind.{common_steps}
use Rattle.std.proofs.lemmas.List.{append-nil, length-append, length-take, drop-append-le, drop_all, map-append, take-append-drop, take_all, take_more}
use Rattle.std.proofs.lemmas.Bool.Decides.{nat_tests}
use Rattle.std.proofs.lemmas.List.Elements.{All-append, All-cons, All-head, All-nil, All-tail}
use Rattle.std.proofs.lemmas.Str.{chars-encodes}
use Rattle.std.specs.Char.Escape.{encode_utf16}
use Rattle.std.specs.List.{flat_map}
use Rattle.std.specs.Str.{encode_utf8_all}
use Rattle.uefi_text.proofs.Packing.{length-packed_items}
use Rattle.uefi_text.proofs.Texts.{scalars-IsText}
use Rattle.uefi_text.specs.UnitBytes.{units_of_bytes}
use Rattle.uefi_text.specs.UnitTexts.{utf16_units}
use Rattle.uefi_text.specs.Units.{IsText, IsTextUnit, replaced}
use Rattle.uefi_path.proofs.Joining.{needs_separator-append, with_separators-plain, IsPlain-with_separators}
use Rattle.uefi_path.proofs.SeparatorPlaces.{IsText-with_separators, IsTextUnit-separator}
use Rattle.uefi_path.specs.Pushing.{needs_separator}
use Rattle.uefi_path.specs.Separators.{becomes_separator, separator, slash, with_separators}
use Rattle.uefi_device_nodes.specs.FileNodes.{is_file}
use Rattle.uefi_device_nodes.specs.Nodes.{Node, node_bytes}
use Rattle.uefi_device_path.specs.FilePaths.{file_path, is_rooted, name_after, name_in, with_node}
use Rattle.uefi_device_path.specs.Paths.{nodes_bytes}

-- the units of a name so far: none, one more, and all
pub units_none : (path text : List ℕ) (start : ℕ) → path ++ with_separators (drop start (take start text)) ≡ path
units_none path text start =
    let none : drop start (take start text) ≡ [] = drop_all start (take start text) (grind (arith, common_steps)) in
    ap (λ us. path ++ with_separators us) none ∙ append-nil path

pub units_more : (path text : List ℕ) (start place unit : ℕ) → start ≤ place → place < length text → get_or text place 0 ≡ unit
    → (path ++ with_separators (drop start (take place text))) ++ replaced slash separator unit ∷ []
    ≡ path ++ with_separators (drop start (take (place + 1) text))
units_more path text start place unit begun within is =
    let one : take (place + 1) text ≡ take place text ++ unit ∷ [] = take_more text place 0 within ∙ ap (λ u. take place text ++ u ∷ []) is in
    let long : length (take place text) ≡ place = grind (arith, common_steps) in
    let cut : drop start (take place text ++ unit ∷ []) ≡ drop start (take place text) ++ unit ∷ [] = drop-append-le start (take place text) (unit ∷ []) (omega (arith, long)) in
    append_assoc path (with_separators (drop start (take place text))) (replaced slash separator unit ∷ [])
    ∙ ap (λ us. path ++ us) (sym (map-append (replaced slash separator) (drop start (take place text)) (unit ∷ [])))
    ∙ ap (λ us. path ++ with_separators us) (sym (ap (drop start) one ∙ cut))

pub units_all : (path text : List ℕ) (start place : ℕ) → length text ≤ place
    → path ++ with_separators (drop start (take place text)) ≡ path ++ with_separators (drop start text)
units_all path text start place all = ap (λ us. path ++ with_separators (drop start us)) (take_all place text all)

-- where a name begins that is added to a path
abbrev pub start_of : List ℕ → List ℕ → ℕ
start_of [] name = 0
start_of (unit ∷ units) name = if is_rooted name then 1 else 0

pub start_is : (path name : List ℕ) (is_empty : Bool) → is_empty ≡ (length path == 0)
    → (if is_empty then 0 else if is_rooted name then 1 else 0) ≡ start_of path name
start_is [] name is_empty e = rw e refl
start_is (u ∷ us) name is_empty e =
    let some : (length (u ∷ us) == 0) ≡ false = grind (arith, common_steps) in
    rw (e, some) refl

-- the path before the units of a name that are added
abbrev pub before_name : List ℕ → Bool → List ℕ
before_name path is_some = if needs_separator path && is_some then path ++ separator ∷ [] else path

-- a name after a path is the separator that is missing, and the units of the name
pub name_after_parts : (path name : List ℕ) → name_after path name
    ≡ before_name path (nat_lt (start_of path name) (length name)) ++ with_separators (drop (start_of path name) name)
name_after_parts [] [] = refl
name_after_parts [] (v ∷ name) = refl
name_after_parts (u ∷ us) [] = elim (cases_Bool (needs_separator (u ∷ us))) [
  | inl missing ↦ rw missing (sym (append-nil (u ∷ us)))
  | inr none ↦ rw none (sym (append-nil (u ∷ us)))
]
name_after_parts (u ∷ us) (v ∷ []) = elim (cases_Bool (becomes_separator v)) [
  | inl rooted ↦ rw rooted (elim (cases_Bool (needs_separator (u ∷ us))) [
    | inl missing ↦ rw missing (sym (append-nil (u ∷ us)))
    | inr none ↦ rw none (sym (append-nil (u ∷ us)))
  ])
  | inr plain ↦ rw plain (elim (cases_Bool (needs_separator (u ∷ us))) [
    | inl missing ↦ rw missing (sym (append_assoc (u ∷ us) (separator ∷ []) (with_separators (v ∷ []))))
    | inr none ↦ rw none refl
  ])
]
name_after_parts (u ∷ us) (v ∷ w ∷ name) = elim (cases_Bool (becomes_separator v)) [
  | inl rooted ↦ rw (rooted, lt-ltb 1 (length (v ∷ w ∷ name)) (omega arith)) (elim (cases_Bool (needs_separator (u ∷ us))) [
    | inl missing ↦ rw missing (sym (append_assoc (u ∷ us) (separator ∷ []) (with_separators (w ∷ name))))
    | inr none ↦ rw none refl
  ])
  | inr plain ↦ rw (plain, lt-ltb 0 (length (v ∷ w ∷ name)) (omega arith)) (elim (cases_Bool (needs_separator (u ∷ us))) [
    | inl missing ↦ rw missing (sym (append_assoc (u ∷ us) (separator ∷ []) (with_separators (v ∷ w ∷ name))))
    | inr none ↦ rw none refl
  ])
]

-- what another adds: the separator that is missing, and its units
abbrev pub added_by : List ℕ → List ℕ → List ℕ
added_by path name =
    (if needs_separator path then separator ∷ [] else []) ++ with_separators (drop (start_of path name) name)

pub some_added : (path name : List ℕ) → start_of path name < length name → name_after path name ≡ path ++ added_by path name
some_added path name some =
    let tail = with_separators (drop (start_of path name) name) in
    name_after_parts path name ∙ ap (λ b. before_name path b ++ tail) (lt-ltb (start_of path name) (length name) some)
    ∙ elim (cases_Bool (needs_separator path)) [
      | inl missing ↦ rw missing (append_assoc path (separator ∷ []) tail)
      | inr none ↦ rw none refl
    ]

-- what follows a text decides whether a separator is missing
needs_over : (us vs : List ℕ) → 0 < length vs → needs_separator (us ++ vs) ≡ needs_separator vs
needs_over us [] some = absurd (omega (arith, some))
needs_over us (v ∷ vs) some = needs_separator-append us v vs

pub some_after : (path name : List ℕ) → start_of path name < length name → false ≡ (length (name_after path name) == 0)
some_after path name some =
    let tail = with_separators (drop (start_of path name) name) in
    let long : length (name_after path name) ≡ length (before_name path (nat_lt (start_of path name) (length name))) + length tail =
    ap length (name_after_parts path name) ∙ length-append (before_name path (nat_lt (start_of path name) (length name))) tail in
    let more : 0 < length tail = grind (arith, common_steps) in
    let none : (length (name_after path name) == 0) ≡ false = grind (arith, common_steps, long, more) in
    sym none

pub ends_as_name : (path name : List ℕ) → start_of path name < length name
    → needs_separator (name_after path name) ≡ needs_separator (with_separators name)
ends_as_name path name some =
    let start = start_of path name in
    let tail = with_separators (drop start name) in
    let long : 0 < length tail = grind (arith, common_steps) in
    let parts : with_separators (take start name) ++ tail ≡ with_separators name =
    sym (map-append (replaced slash separator) (take start name) (drop start name)) ∙ ap with_separators (take-append-drop start name) in
    ap needs_separator (name_after_parts path name)
    ∙ needs_over (before_name path (nat_lt start (length name))) tail long
    ∙ sym (needs_over (with_separators (take start name)) tail long)
    ∙ ap needs_separator parts

-- a file path is no longer than the bytes of its nodes
name_within : (content : List ℕ) → length (name_in content) ≤ length content
name_within content =
    let units : length (units_of_bytes content) ≡ length content / 2 = length-packed_items 2 (length content / 2) content in
    omega (arith, units, length-take (length (units_of_bytes content) - 1) (units_of_bytes content))

after_within : (path name : List ℕ) → length (name_after path name) ≤ length path + length name + 1
after_within path name =
    let some = nat_lt (start_of path name) (length name) in
    let tail = with_separators (drop (start_of path name) name) in
    let long : length (name_after path name) ≡ length (before_name path some) + length tail =
    ap length (name_after_parts path name) ∙ length-append (before_name path some) tail in
    let less : length tail ≤ length name = grind (arith, common_steps) in
    let before : length (before_name path some) ≤ length path + 1 = elim (cases_Bool (needs_separator path && some)) [
      | inl is ↦ rw is (grind (arith, common_steps))
      | inr other ↦ rw other (omega arith)
    ] in
    omega (arith, long, less, before)

with_node_within : (path : List ℕ) (n : Node) → length (with_node path n) ≤ length path + length (node_bytes n)
with_node_within path n = elim (cases_Bool (is_file n)) [
  | inl file ↦ rw file (omega (arith, after_within path (name_in n.content), name_within n.content))
  | inr other ↦ rw other (omega arith)
]

fold_within : (nodes : List Node) (path : List ℕ) → length (fold with_node path nodes) ≤ length path + length (nodes_bytes nodes)
fold_within [] path = omega arith
fold_within (n ∷ nodes) path =
    omega (arith, fold_within nodes (with_node path n), with_node_within path n, length-append (node_bytes n) (nodes_bytes nodes))

pub file_path_within : (nodes : List Node) → length (file_path nodes) ≤ length (nodes_bytes nodes)
file_path_within nodes = omega (arith, fold_within nodes [])

-- the units of a text in UTF-8 are its own
encoded_units : (text : List ℕ) → IsText text → flat_map encode_utf16 text ≡ text
encoded_units [] is = refl
encoded_units (u ∷ us) is =
    let first : IsTextUnit u = All-head IsTextUnit u us is in
    let one : encode_utf16 u ≡ u ∷ [] = grind (arith, common_steps, nat_tests) in
    rw (one, encoded_units us (All-tail IsTextUnit u us is)) refl

pub file_path_units : (text : List ℕ) → IsText text → utf16_units (encode_utf8_all text) ≡ text
unfolding utf16_units
file_path_units text is =
    ap (flat_map encode_utf16) (chars-encodes text (scalars-IsText text is)) ∙ encoded_units text is

text_part : (count : ℕ) (units : List ℕ) → IsText units → IsText (drop count units)
text_part count units is_text = grind (arith, common_steps)

-- and with another after it
pub text_after : (path name : List ℕ) → IsText path → IsText name → IsText (name_after path name)
text_after path name path_is name_is =
    let start = start_of path name in
    let some = nat_lt start (length name) in
    let before : IsText (before_name path some) = elim (cases_Bool (needs_separator path && some)) [
      | inl is ↦ rw is (All-append IsTextUnit path (separator ∷ []) path_is
          (All-cons IsTextUnit separator [] IsTextUnit-separator (All-nil IsTextUnit)))
      | inr other ↦ rw other path_is
    ] in
    subst IsText (sym (name_after_parts path name))
    (All-append IsTextUnit (before_name path some) (with_separators (drop start name)) before
    (IsText-with_separators (drop start name) (text_part start name name_is)))

-- slashes that were replaced are none
replaced_twice : (units : List ℕ) → with_separators (with_separators units) ≡ with_separators units
replaced_twice units = with_separators-plain (with_separators units) (IsPlain-with_separators units)

-- a path without slashes has none with a name after it
plain_after : (path name : List ℕ) → with_separators path ≡ path → with_separators (name_after path name) ≡ name_after path name
plain_after path name plain =
    let some = nat_lt (start_of path name) (length name) in
    let tail = drop (start_of path name) name in
    let before : with_separators (before_name path some) ≡ before_name path some = elim (cases_Bool (needs_separator path && some)) [
      | inl is ↦ rw is (map-append (replaced slash separator) path (separator ∷ []) ∙ ap (λ us. us ++ separator ∷ []) plain)
      | inr other ↦ rw other plain
    ] in
    ap with_separators (name_after_parts path name)
    ∙ map-append (replaced slash separator) (before_name path some) (with_separators tail)
    ∙ ap (λ us. us ++ with_separators (with_separators tail)) before
    ∙ ap (λ us. before_name path some ++ us) (replaced_twice tail)
    ∙ sym (name_after_parts path name)

plain_fold : (nodes : List Node) (path : List ℕ) → with_separators path ≡ path
    → with_separators (fold with_node path nodes) ≡ fold with_node path nodes
plain_fold [] path plain = plain
plain_fold (n ∷ nodes) path plain =
    let next : with_separators (with_node path n) ≡ with_node path n = elim (cases_Bool (is_file n)) [
      | inl file ↦ rw file (plain_after path (name_in n.content) plain)
      | inr other ↦ rw other plain
    ] in
    plain_fold nodes (with_node path n) next

-- a file path has no slash
pub file_path_plain : (nodes : List Node) → with_separators (file_path nodes) ≡ file_path nodes
file_path_plain nodes = plain_fold nodes [] refl
