-- The laws of paths, over the definitions that contracts of working calls cite.
use Rattle.std.specs.Prelude.{◌≡◌, ◌≢◌, ◌↔◌, ◌⊎◌, ℕ, ◌+◌, ◌-◌, ◌≤◌, All, List, [], ◌∷◌, ◌++◌, length, fold, Bool, true, IsTrue, None, Some, count_by, nat_eq}
use Rattle.std.specs.Cmp.{IsEquivalence, IsTotalOrder}
use Rattle.std.specs.Cmp.Lexicographic.{pointwise, slice_cmp}
use Rattle.std.specs.Ordering.{nat_cmp}
use Rattle.std.specs.declared.cmp.Ordering.{Ordering}
use Rattle.std.specs.declared.cmp.Ordering.TheVariants.{Equal}
use Rattle.uefi_path.specs.Writing.{normal_path}
use Rattle.uefi_path.specs.Climbing.{NoneClimbs, dot_dots, names}
use Rattle.uefi_path.specs.Components.{AreComponents, components_of}
use Rattle.uefi_path.specs.NormalForms.{IsName, NormalForm, dot_dot, Rewrites, normal_of, normal_text}
use Rattle.uefi_path.specs.Parents.{parent_text}
use Rattle.uefi_path.specs.Pushing.{needs_separator, pushed}
use Rattle.uefi_path.specs.Separators.{IsPlain, canonical, is_separator, separator}
use Rattle.uefi_path.specs.SuccessiveParents.{AreParents, parents_of, shorter_prefixes}
use Rattle.uefi_path.specs.Verdicts.{IsGood, IsValid, fault, verdict}
use Rattle.uefi_path.specs.declared.validation.PathError.{PathError}
use Rattle.uefi_path.specs.declared.validation.PathError.TheVariants.{ClimbsAboveRoot, Empty}

-- every text has components
abbrev pub TextsHaveComponents : Type 0
TextsHaveComponents = (text : List ℕ) → (pieces : List (List ℕ)) × AreComponents text pieces

-- no text has two lists of components
abbrev pub ComponentsOnce : Type 0
ComponentsOnce = (text : List ℕ) (pieces others : List (List ℕ))
    → AreComponents text pieces → AreComponents text others → pieces ≡ others

-- `components_of` a text is its list of components, and no other list is
abbrev pub AreComponentsWhereSame : Type 0
AreComponentsWhereSame =
    (text : List ℕ) (pieces : List (List ℕ)) → AreComponents text pieces ↔ (pieces ≡ components_of text)

-- a text whose canonical text is empty has no component
abbrev pub NoComponentsOfEmpty : Type 0
NoComponentsOfEmpty = (text : List ℕ) (pieces : List (List ℕ)) → AreComponents text pieces
    → canonical text ≡ [] → length pieces ≡ 0

-- any other text has one component more than separators
abbrev pub OneMoreThanSeparators : Type 0
OneMoreThanSeparators = (text : List ℕ) (pieces : List (List ℕ)) → AreComponents text pieces
    → canonical text ≢ [] → length pieces ≡ count_by is_separator (canonical text) + 1

-- a path is valid exactly where it is not refused
abbrev pub ValidWhereUnrefused : Type 0
ValidWhereUnrefused = (text : List ℕ) → IsValid text ↔ (verdict text ≡ None)

-- equal paths have the same parent, or have none
abbrev pub SameParent : Type 0
SameParent = (text other : List ℕ) → canonical text ≡ canonical other → parent_text text ≡ parent_text other

-- whether two paths are equal: their canonical texts are
abbrev pub path_equal : List ℕ → List ℕ → Bool
path_equal text other = pointwise nat_eq (canonical text) (canonical other)

-- the order of two paths: that of their canonical texts, unit by unit
abbrev pub path_order : List ℕ → List ℕ → Ordering
path_order text other = slice_cmp nat_cmp (canonical text) (canonical other)

-- the order of paths is total: of two paths either is less, or they are alike, and less chains
abbrev pub OrderIsTotal : Type 0
OrderIsTotal = IsTotalOrder path_order

-- of two paths neither is less exactly where their canonical texts are the same
abbrev pub OrderTiesEqual : Type 0
OrderTiesEqual =
    (text other : List ℕ) → (path_order text other ≡ Equal) ↔ (canonical text ≡ canonical other)

-- equality of paths is an equivalence
abbrev pub EqualityIsEquivalence : Type 0
EqualityIsEquivalence = IsEquivalence path_equal

-- two paths are equal exactly where their canonical texts are the same
abbrev pub EqualWhereSameCanonical : Type 0
EqualWhereSameCanonical =
    (text other : List ℕ) → IsTrue (path_equal text other) ↔ (canonical text ≡ canonical other)

-- how pushed paths are grouped does not matter, where the middle one has no slash to replace
abbrev pub PushingIsAssociative : Type 0
PushingIsAssociative = (first second third : List ℕ) → IsPlain second
    → pushed (pushed first second) third ≡ pushed first (pushed second third)

-- the empty path after a path changes nothing
abbrev pub EmptyAfterIsUnit : Type 0
EmptyAfterIsUnit = (text : List ℕ) → pushed text [] ≡ text

-- the empty path before a plain path changes nothing
abbrev pub EmptyBeforeIsUnit : Type 0
EmptyBeforeIsUnit = (text : List ℕ) → IsPlain text → pushed [] text ≡ text

-- a relative text: no separator at its start, which its canonical text would lack
abbrev pub IsRelative : List ℕ → Type 0
IsRelative text = canonical text ≡ text

-- a text that takes a part after it: it is empty, or the lone separator, or does not end in one
abbrev pub TakesMore : List ℕ → Type 0
TakesMore text = (canonical text ≡ []) ⊎ (needs_separator text ≡ true)

-- the components of what was pushed stand after those of the path
abbrev pub ComponentsAreJoined : Type 0
ComponentsAreJoined = (text part : List ℕ) → TakesMore text → IsPlain part → IsRelative part
    → components_of (pushed text part) ≡ components_of text ++ components_of part

-- a valid relative path after a valid one is valid
abbrev pub JoinedAreValid : Type 0
JoinedAreValid = (text part : List ℕ) → verdict text ≡ None → verdict part ≡ None → IsRelative part
    → verdict (pushed text part) ≡ None

-- a text whose components are not empty takes a part after it, and its canonical text is relative
abbrev pub FullTextsTakeMore : Type 0
FullTextsTakeMore = (text : List ℕ) → All (λ component. component ≢ []) (components_of text)
    → TakesMore text × IsRelative (canonical text)

-- the first component for which a path is refused: those before it are good and none of them climbs,
-- and it names no file, or is a `..` before which at least as many `..` as names stand
pub record IsRefusedFor (components : List (List ℕ)) (error : PathError) : Type 0 where
  pub front : List (List ℕ)
  pub component : List ℕ
  pub rest : List (List ℕ)
  pub split : components ≡ front ++ component ∷ rest
  pub good : All IsGood front
  pub none_climbs : NoneClimbs front
  pub why : (fault component ≡ Some error)
      ⊎ ((component ≡ dot_dot) × (names front ≤ dot_dots front) × (error ≡ ClimbsAboveRoot))

-- a path is refused as empty, or for the first of its components that has a fault or climbs
abbrev pub RefusedForFirst : Type 0
RefusedForFirst = (text : List ℕ) (error : PathError) → (verdict text ≡ Some error)
    ↔ (((text ≡ []) × (error ≡ Empty)) ⊎ ((text ≢ []) × IsRefusedFor (components_of text) error))

-- equal paths that have components stay equal when the same is pushed on both
abbrev pub JoinedAreSame : Type 0
JoinedAreSame = (text other part : List ℕ) → canonical text ≡ canonical other → components_of text ≢ []
    → canonical (pushed text part) ≡ canonical (pushed other part)

-- a parent of a plain text is relative
abbrev pub ParentIsRelative : Type 0
ParentIsRelative = (text parent : List ℕ) → IsPlain text → parent_text text ≡ Some parent
    → IsRelative parent

-- a parent of a plain text holds no two separators in a row
abbrev pub ParentIsNotDoubled : Type 0
ParentIsNotDoubled = (text parent before after : List ℕ) → IsPlain text → parent_text text ≡ Some parent
    → parent ≢ before ++ separator ∷ separator ∷ after

-- a parent of a valid text is valid
abbrev pub ParentIsValid : Type 0
ParentIsValid = (text parent : List ℕ) → verdict text ≡ None → parent_text text ≡ Some parent
    → verdict parent ≡ None

-- the components of a valid text, pushed one by one after nothing, make its canonical text
abbrev pub ComponentsRebuild : Type 0
ComponentsRebuild = (text : List ℕ) → verdict text ≡ None
    → fold pushed [] (components_of text) ≡ canonical text

-- the parent of a valid text after which a good component was pushed is its canonical text
abbrev pub ParentOfJoined : Type 0
ParentOfJoined = (text piece : List ℕ) → verdict text ≡ None → components_of text ≢ []
    → IsGood piece → parent_text (pushed text piece) ≡ Some (canonical text)

-- the canonical text of a valid text is an equal path
abbrev pub CanonicalIsEqual : Type 0
CanonicalIsEqual = (text : List ℕ) → verdict text ≡ None → canonical (canonical text) ≡ canonical text

-- the successive parents of a valid text are its shorter prefixes, the longest first
abbrev pub ParentsArePrefixes : Type 0
ParentsArePrefixes = (text : List ℕ) (parents : List (List ℕ)) → verdict text ≡ None
    → AreParents text parents ↔ (parents ≡ shorter_prefixes text)

-- every text has successive parents: walking up ends
abbrev pub WalkingUpEnds : Type 0
WalkingUpEnds = (text : List ℕ) → (parents : List (List ℕ)) × AreParents text parents

-- `parents_of` a text are its successive parents
abbrev pub ParentsOfAreParents : Type 0
ParentsOfAreParents = (text : List ℕ) → AreParents text (parents_of text)

-- no other list than `parents_of` a text is that of its successive parents
abbrev pub AreParentsWhereSame : Type 0
AreParentsWhereSame =
    (text : List ℕ) (parents : List (List ℕ)) → AreParents text parents ↔ (parents ≡ parents_of text)

-- a plain text has fewer successive parents than components, or none of either
abbrev pub FewerParents : Type 0
FewerParents = (text : List ℕ) (parents : List (List ℕ)) → IsPlain text → AreParents text parents
    → length parents ≤ length (components_of text) - 1

-- each list of pieces has a normal form
abbrev pub NormalFormsExist : Type 0
NormalFormsExist = (pieces : List (List ℕ)) → (normal : List (List ℕ)) × NormalForm pieces normal

-- no list of pieces has two normal forms
abbrev pub NormalFormsOnce : Type 0
NormalFormsOnce = (pieces normal other : List (List ℕ)) → NormalForm pieces normal → NormalForm pieces other
    → normal ≡ other

-- `normal_of` a list of pieces is its normal form, and no other list is
abbrev pub NormalFormWhereSame : Type 0
NormalFormWhereSame = (pieces normal : List (List ℕ)) → NormalForm pieces normal ↔ (normal ≡ normal_of pieces)

-- two lists have the same normal form exactly where steps lead from both to some list
abbrev pub NormalFormsAgree : Type 0
NormalFormsAgree = (pieces others normal other : List (List ℕ))
    → NormalForm pieces normal → NormalForm others other
    → (normal ≡ other) ↔ ((common : List (List ℕ)) × Rewrites pieces common × Rewrites others common)

-- the normal path of a valid one is valid
abbrev pub NormalIsValid : Type 0
NormalIsValid = (text : List ℕ) (normal : List (List ℕ)) → verdict text ≡ None
    → NormalForm (components_of text) normal → verdict (normal_text normal) ≡ None

-- the normal path of a valid one holds names alone, neither `.` nor `..`
abbrev pub NormalHoldsNames : Type 0
NormalHoldsNames = (text : List ℕ) (normal : List (List ℕ)) → verdict text ≡ None
    → NormalForm (components_of text) normal → All IsName normal

-- the normal path of a valid one is its own normal path
abbrev pub NormalIsNormal : Type 0
NormalIsNormal = (text : List ℕ) (normal : List (List ℕ)) → verdict text ≡ None
    → NormalForm (components_of text) normal → NormalForm (components_of (normal_text normal)) normal

-- the normal path of a path has no more units
abbrev pub NormalIsNoLonger : Type 0
NormalIsNoLonger = (text normal : List ℕ) → normal_path text ≡ Some normal → length normal ≤ length text

-- the normal paths of two valid ones are equal exactly where steps lead from the components of both to
-- some list
abbrev pub NormalPathsAgree : Type 0
NormalPathsAgree = (text other : List ℕ) (normal others : List (List ℕ))
    → verdict text ≡ None → verdict other ≡ None
    → NormalForm (components_of text) normal → NormalForm (components_of other) others
    → (canonical (normal_text normal) ≡ canonical (normal_text others))
    ↔ ((common : List (List ℕ)) × Rewrites (components_of text) common
    × Rewrites (components_of other) common)
