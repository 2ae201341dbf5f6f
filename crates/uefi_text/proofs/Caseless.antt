-- Upper and lower case of units and of strings, and lists compared unit by unit.
use Rattle.std.proofs.Common.{◌≡◌, ◌∙◌, ◌+◌, ◌-◌, ◌<◌, ◌≤◌, ◌^◌, ◌↔◌, ℕ, Bool, IsTrue, List, [], ◌∷◌, ◌++◌, map, ap, sym, subst, refl, zero, suc, drop, take, get_or, length, arith, add-one, min, length-drop}
use Rattle.std.proofs.Math.Seq.{drop-cons, take-add}
use Rattle.std.proofs.lemmas.Bool.Decides.{nat_tests}
use Rattle.std.proofs.lemmas.Cmp.{nat_list_cmp_total, tied_itself}
use Rattle.std.proofs.lemmas.List.{map-append}
use Rattle.std.proofs.lemmas.List.Elements.{All-map, All-weaker}
use Rattle.std.specs.Char.{to_ascii_lowercase, to_ascii_uppercase}
use Rattle.std.specs.Cmp.{Equal-is, nat_cmp_is}
use Rattle.std.specs.Cmp.Lexicographic.{slice_cmp}
use Rattle.std.specs.FinMap.{nat_cmp-IsAntisymmetric, slice_cmp-IsAntisymmetric}
use Rattle.std.specs.Ordering.{is_eq, nat_cmp}
use Rattle.std.specs.Str.{IsAscii}
use Rattle.std.specs.declared.cmp.Ordering.{Ordering}
use Rattle.std.specs.declared.cmp.Ordering.TheVariants.{Equal}
use Rattle.uefi_text.specs.declared.case.Case.{Case}
use Rattle.uefi_text.specs.declared.case.Case.TheVariants.{Upper, Lower}
use Rattle.uefi_text.specs.Case.{in_case, lower, lowers, upper, uppers}
use Rattle.uefi_text.specs.Units.{IsString, IsTextUnit, nul_terminated, without_nul}
use Rattle.uefi_text.proofs.Texts.{IsString-made}

-- a unit of a text stays one in either case, and NUL stays NUL
IsTextUnit-in_case : (case : Case) (unit : ℕ) → IsTextUnit unit → IsTextUnit (in_case case unit)
IsTextUnit-in_case Upper unit is = grind (arith, nat_tests)
IsTextUnit-in_case Lower unit is = grind (arith, nat_tests)

nul-in_case : (case : Case) → in_case case 0 ≡ 0
nul-in_case Upper = refl
nul-in_case Lower = refl

-- a string stays one
pub IsString-in_case : (case : Case) (units : List ℕ) → IsString units → IsString (map (in_case case) units)
IsString-in_case case units string =
    let text = without_nul units in
    let made : map (in_case case) units ≡ nul_terminated (map (in_case case) text) =
    ap (map (in_case case)) string.0 ∙ map-append (in_case case) text (0 ∷ []) ∙ ap (λ u. map (in_case case) text ++ u ∷ []) (nul-in_case case) in
    IsString-made _ _ made
    (All-map IsTextUnit (in_case case) text (All-weaker IsTextUnit (λ u. IsTextUnit (in_case case u)) (IsTextUnit-in_case case) text string.1))

pub next : (units : List ℕ) (i : ℕ) → i < length units → drop i units ≡ get_or units i 0 ∷ drop (i + 1) units
next units i inside = rw (add-one, drop-cons units i 0)

-- where one list has ended, the lengths decide
ended : (xs ys : List ℕ) (m n i : ℕ) → length xs ≡ m - i → length ys ≡ n - i → i ≡ min m n → nat_cmp m n ≡ slice_cmp nat_cmp (uppers xs) (uppers ys)
ended [] [] m n i first second end = grind (arith, nat_tests)
ended [] (y ∷ ys) m n i first second end = grind (arith, nat_tests)
ended (x ∷ xs) [] m n i first second end = grind (arith, nat_tests)
ended (x ∷ xs) (y ∷ ys) m n i first second end = absurd (omega arith)

pub ends : (units others : List ℕ) (i : ℕ) → i ≡ min (length units) (length others)
    → nat_cmp (length units) (length others) ≡ slice_cmp nat_cmp (uppers (drop i units)) (uppers (drop i others))
ends units others i end = ended (drop i units) (drop i others) (length units) (length others) i (length-drop i units) (length-drop i others) end

-- lists that are the same up to a place, and then in a block
pub alike_more : (xs ys : List ℕ) (n k : ℕ) → uppers (take n xs) ≡ uppers (take n ys) → uppers (take k (drop n xs)) ≡ uppers (take k (drop n ys))
    → uppers (take (n + k) xs) ≡ uppers (take (n + k) ys)
alike_more xs ys n k front block = parts xs ∙ (λ i. front i ++ block i) ∙ sym (parts ys)
  where
    parts : (us : List ℕ) → uppers (take (n + k) us) ≡ uppers (take n us) ++ uppers (take k (drop n us))
    parts us = ap uppers (take-add n k us) ∙ map-append upper (take n us) (take k (drop n us))

-- what is left decides
pub left_decides : (k : ℕ) (xs ys : List ℕ) → k ≤ length xs → k ≤ length ys → uppers (take k xs) ≡ uppers (take k ys)
    → slice_cmp nat_cmp (uppers (drop k xs)) (uppers (drop k ys)) ≡ slice_cmp nat_cmp (uppers xs) (uppers ys)
left_decides zero xs ys l m e = refl
left_decides (suc k) [] ys l m e = absurd (omega (arith, l))
left_decides (suc k) (x ∷ xs) [] l m e = absurd (omega (arith, m))
left_decides (suc k) (x ∷ xs) (y ∷ ys) l m e =
    let first : upper x ≡ upper y = cc in
    let rest : uppers (take k xs) ≡ uppers (take k ys) = cc in
    let tie : nat_cmp (upper x) (upper y) ≡ Equal = sym (nat_cmp_is (upper x) (upper y) Equal first) in
    left_decides k xs ys (omega (arith, l)) (omega (arith, m)) rest ∙ sym (rw tie refl)

-- lists tie exactly where they are the same
pub ties : (xs ys : List ℕ) → (slice_cmp nat_cmp xs ys ≡ Equal) ↔ (xs ≡ ys)
ties xs ys = (
  slice_cmp-IsAntisymmetric nat_cmp-IsAntisymmetric xs ys,
  λ e. subst (λ us. slice_cmp nat_cmp xs us ≡ Equal) e (tied_itself nat_list_cmp_total xs),
)

pub same_where_equal : (same : Bool) (order : Ordering) (xs ys : List ℕ) → same ≡ is_eq order → order ≡ slice_cmp nat_cmp xs ys → IsTrue same ↔ (xs ≡ ys)
same_where_equal same order xs ys is compared = (
  λ holds. (ties xs ys).0 (sym compared ∙ (Equal-is order).0 (sym is ∙ holds)),
  λ e. is ∙ (Equal-is order).1 (compared ∙ (ties xs ys).1 e),
)

-- each case is reached at once, whichever one a unit had
pub upper-upper : (unit : ℕ) → upper (upper unit) ≡ upper unit
upper-upper unit = grind (arith, nat_tests)

pub lower-lower : (unit : ℕ) → lower (lower unit) ≡ lower unit
lower-lower unit = grind (arith, nat_tests)

pub upper-lower : (unit : ℕ) → upper (lower unit) ≡ upper unit
upper-lower unit = grind (arith, nat_tests)

pub lower-upper : (unit : ℕ) → lower (upper unit) ≡ lower unit
lower-upper unit = grind (arith, nat_tests)

lowers-uppers : (units : List ℕ) → lowers (uppers units) ≡ lowers units
lowers-uppers [] = refl
lowers-uppers (u ∷ us) = λ i. lower-upper u i ∷ lowers-uppers us i

uppers-lowers : (units : List ℕ) → uppers (lowers units) ≡ uppers units
uppers-lowers [] = refl
uppers-lowers (u ∷ us) = λ i. upper-lower u i ∷ uppers-lowers us i

-- the case of ASCII
pub upper-ascii : (unit : ℕ) → unit < 2 ^ 7 → upper unit ≡ to_ascii_uppercase unit
upper-ascii unit ascii = grind (arith, nat_tests)

pub lower-ascii : (unit : ℕ) → unit < 2 ^ 7 → lower unit ≡ to_ascii_lowercase unit
lower-ascii unit ascii = grind (arith, nat_tests)

lowers-ascii : (units : List ℕ) → IsAscii units → lowers units ≡ map to_ascii_lowercase units
lowers-ascii [] ascii = refl
lowers-ascii (u ∷ us) ascii = λ i. lower-ascii u (ascii 0) i ∷ lowers-ascii us (λ k. ascii (suc k)) i

pub same_ascii : (text other : List ℕ) → IsAscii text → IsAscii other
    → (uppers text ≡ uppers other) ↔ (map to_ascii_lowercase text ≡ map to_ascii_lowercase other)
same_ascii text other ascii other_ascii = (
  λ e. sym (lowers-ascii text ascii) ∙ sym (lowers-uppers text) ∙ ap lowers e ∙ lowers-uppers other ∙ lowers-ascii other other_ascii,
  λ e. sym (uppers-lowers text) ∙ ap uppers (lowers-ascii text ascii ∙ e ∙ sym (lowers-ascii other other_ascii)) ∙ uppers-lowers other,
)
