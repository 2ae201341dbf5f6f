-- Data after the fields, and further fields that are read into the fixed part before them.
use Rattle.std.proofs.Common.{◌≡◌, ℕ, ◌+◌, Bool, true, false, cond, leb, List, ◌++◌, length, length-append, take, drop, refl, sym, ap, ◌∙◌}
use Rattle.std.specs.Prelude.{Option, Some, None, option_and_then}
use Rattle.std.specs.List.{list_all}
use Rattle.std.proofs.Math.Seq.{drop-append_seam, take-append_seam}
use Rattle.uefi_device_nodes.specs.Rows.{Form, is_within}
use Rattle.uefi_node_reader.specs.TableReading.{added, followed, pieces_put, rest_read, tail_read}
use Rattle.uefi_node_reader.specs.ParsedNodes.{fitting}
use Rattle.uefi_node_reader.specs.WordReading.{after}
use Rattle.uefi_node_reader.proofs.Digits.{some_pair}
use Rattle.uefi_node_reader.proofs.PieceLaws.{put_size}

module _ (form : Form) (fixed : List ℕ) (within : list_all (is_within (length fixed)) form.rest ≡ true) (text : List ℕ) where
  -- further fields, and data after the fixed part
  abbrev pub fields : List ℕ → List ℕ → List ℕ → Option (List ℕ × List ℕ)
  fields head tail rest = option_and_then (followed tail) (pieces_put form.rest head rest)

  -- what is read before them
  abbrev read : List ℕ × List ℕ → Option (List ℕ × List ℕ)
  read tail = Some (fixed ++ tail.0, tail.1)

  -- they leave as many bytes
  same_size : (tail rest : List ℕ) (t : Bool) → leb (length (fixed ++ tail)) 0xfffb ≡ t
      → fitting (fields fixed tail rest) ≡ cond t (fields fixed tail rest) None
  same_size tail rest t e = by (pieces_put form.rest fixed rest) refl
    where
      nothing : (t : Bool) → let none : Option (List ℕ × List ℕ) = None in none ≡ cond t none none
      nothing true = refl
      nothing false = refl

      by : (o : Option (List ℕ × List ℕ)) → pieces_put form.rest fixed rest ≡ o
          → fitting (option_and_then (followed tail) o) ≡ cond t (option_and_then (followed tail) o) None
      by None p = nothing t
      by (Some found) p =
          let size = put_size (length fixed) form.rest fixed rest found.0 found.1 within refl p in
          ap (λ (n : ℕ). cond (leb n 0xfffb) (Some (found.0 ++ tail, found.1)) None)
          (length-append found.0 tail ∙ ap (λ (n : ℕ). n + length tail) size ∙ sym (length-append fixed tail))
          ∙ ap (λ (b : Bool). cond b (Some (found.0 ++ tail, found.1)) None) e

  -- no data are read, or more than a node may have
  pub rest_none : None ≡ fitting (option_and_then (added fixed) (tail_read form.tail form.close text))
      → None ≡ fitting (rest_read form (fixed, text))
  rest_none e = by (tail_read form.tail form.close text) e
    where
      by : (o : Option (List ℕ × List ℕ)) → None ≡ fitting (option_and_then (added fixed) o)
          → None ≡ fitting (option_and_then (λ (tail : List ℕ × List ℕ). option_and_then (λ (rest : List ℕ). fields fixed tail.0 rest) (after form.close tail.1)) o)
      by None p = refl
      by (Some x) p = long (leb (length (fixed ++ x.0)) 0xfffb) refl p (after form.close x.1)
        where
          long : (t : Bool) → leb (length (fixed ++ x.0)) 0xfffb ≡ t → None ≡ cond t (read x) None
              → (o : Option (List ℕ)) → None ≡ fitting (option_and_then (λ (rest : List ℕ). fields fixed x.0 rest) o)
          long true q p o = cc
          long false q p None = refl
          long false q p (Some rest) = sym (same_size x.0 rest false q)

  -- data are read
  pub rest_some : (all left : List ℕ) → Some (all, left) ≡ fitting (option_and_then (added fixed) (tail_read form.tail form.close text))
      → (n : ℕ) → n ≡ length fixed → option_and_then (λ (rest : List ℕ). fields (take n all) (drop n all) rest) (after form.close left) ≡ fitting (rest_read form (fixed, text))
  rest_some all left e n size = by (tail_read form.tail form.close text) e
    where
      by : (o : Option (List ℕ × List ℕ)) → Some (all, left) ≡ fitting (option_and_then (added fixed) o)
          → option_and_then (λ (rest : List ℕ). fields (take n all) (drop n all) rest) (after form.close left)
          ≡ fitting (option_and_then (λ (tail : List ℕ × List ℕ). option_and_then (λ (rest : List ℕ). fields fixed tail.0 rest) (after form.close tail.1)) o)
      by None p = cc
      by (Some x) p = fits (leb (length (fixed ++ x.0)) 0xfffb) refl p
        where
          ends : leb (length (fixed ++ x.0)) 0xfffb ≡ true → (o : Option (List ℕ))
              → option_and_then (λ (rest : List ℕ). fields fixed x.0 rest) o ≡ fitting (option_and_then (λ (rest : List ℕ). fields fixed x.0 rest) o)
          ends q None = refl
          ends q (Some rest) = sym (same_size x.0 rest true q)

          fits : (t : Bool) → leb (length (fixed ++ x.0)) 0xfffb ≡ t → Some (all, left) ≡ cond t (read x) None
              → option_and_then (λ (rest : List ℕ). fields (take n all) (drop n all) rest) (after form.close left)
              ≡ fitting (option_and_then (λ (rest : List ℕ). fields fixed x.0 rest) (after form.close x.1))
          fits false q p = cc
          fits true q p =
              let same = some_pair (all, left) (fixed ++ x.0, x.1) p in
              (λ i. option_and_then (λ (rest : List ℕ). fields (take (size i) (same.0 i)) (drop (size i) (same.0 i)) rest) (after form.close (same.1 i)))
              ∙ (λ i. option_and_then (λ (rest : List ℕ). fields (take-append_seam fixed x.0 i) (drop-append_seam fixed x.0 i) rest) (after form.close x.1))
              ∙ ends q (after form.close x.1)
