-- A field that is read into its place among data, and what texts exactly as they are printed are read as.
use Rattle.std.proofs.Common.{◌≡◌, ℕ, ◌+◌, ◌-◌, Bool, true, cond, List, [], ◌∷◌, refl, sym, ap, ◌∙◌, arith}
use Rattle.std.specs.Prelude.{Option, Some, None, Result, Ok, Err}
use Rattle.std.specs.Option.{ok_or}
use Rattle.std.specs.Result.{result_map_both, result_ok}
use borrow.Rule.Slice.PartMut.{put_mid}
use Rattle.uefi_device_nodes.specs.Rows.{Form, Piece}
use Rattle.uefi_node_reader.specs.FieldReading.{◌>>=◌, field_read}
use Rattle.uefi_node_reader.specs.Notations.{Rules, exact, head_in, pieces_in}
use Rattle.uefi_node_reader.specs.Stops.{◌>?◌}
use Rattle.uefi_node_reader.specs.TableReading.{blank, form_read, is_exact, pieces_put, put_at, rest_read}
use Rattle.uefi_node_reader.specs.WordReading.{after}

module _ {E A : Type 0} (bytes : A → List ℕ) where
  -- data that was read, and the rest of the text
  abbrev pub with_data : List ℕ → Result A E → Result (List ℕ × List ℕ) E
  with_data found r = result_map_both (λ x. (found, bytes x)) (λ e. e) r

  -- the ending of a field that was read
  pub read_in_place : (rules : Rules E) (p : Piece) (content found : List ℕ) (value : Result (List ℕ × List ℕ) E) (left : Result A E) (rest : A)
      (end : Result A E) (ending : List ℕ)
      → with_data found left ≡ value → left ≡ Ok rest → ending ≡ p.ending
      → result_map_both bytes (λ (e : E). e) end ≡ rules.ending ending (bytes rest)
      → with_data (put_mid p.place (p.place + p.width - p.place) content found) end
      ≡ (value >? λ v. rules.ending p.ending v.1 >? λ r. Ok (put_at p v.0 content, r))
  read_in_place rules p content found value left rest end ending e w same a =
      let size : p.place + p.width - p.place ≡ p.width = omega arith in
      ap (λ (k : ℕ). with_data (put_mid p.place k content found) end) size
      ∙ by end ∙ ap go (a ∙ ap (λ (l : List ℕ). rules.ending l (bytes rest)) same)
      ∙ ap next (ap (with_data found) (sym w) ∙ e)
    where
      go : Result (List ℕ) E → Result (List ℕ × List ℕ) E
      go r = r >? λ rest. Ok (put_at p found content, rest)

      next : Result (List ℕ × List ℕ) E → Result (List ℕ × List ℕ) E
      next r = r >? λ v. rules.ending p.ending v.1 >? λ r. Ok (put_at p v.0 content, r)

      by : (r : Result A E) → with_data (put_mid p.place p.width content found) r ≡ go (result_map_both bytes (λ (e : E). e) r)
      by (Ok x) = refl
      by (Err e) = refl

-- fields that are read exactly
pub pieces_exact : (pieces : List Piece) (content text : List ℕ)
    → result_ok (pieces_in exact pieces content text) ≡ pieces_put pieces content text
pieces_exact [] content text = refl
pieces_exact (p ∷ ps) content text = by (pieces_exact ps) (field_read p.shape p.width text)
  where
    Others : Type 0
    Others = (content text : List ℕ) → result_ok (pieces_in exact ps content text) ≡ pieces_put ps content text

    ok : List ℕ → List ℕ → Result (List ℕ × List ℕ) (Unit {0})
    ok put rest = Ok (put, rest)

    some : List ℕ → List ℕ → Option (List ℕ × List ℕ)
    some put rest = Some (put, rest)

    ends : Others → (put : List ℕ) (o : Option (List ℕ))
        → result_ok ((ok_or o tt >? λ rest. ok put rest) >? λ read. pieces_in exact ps read.0 read.1)
        ≡ ((o >>= λ rest. some put rest) >>= λ read. pieces_put ps read.0 read.1)
    ends others put None = refl
    ends others put (Some rest) = others put rest

    by : Others → (o : Option (List ℕ × List ℕ))
        → result_ok ((ok_or o tt >? λ value. ok_or (after p.ending value.1) tt >? λ rest. ok (put_at p value.0 content) rest)
        >? λ read. pieces_in exact ps read.0 read.1)
        ≡ ((o >>= λ value. after p.ending value.1 >>= λ rest. some (put_at p value.0 content) rest) >>= λ read. pieces_put ps read.0 read.1)
    by others None = refl
    by others (Some value) = ends others (put_at p value.0 content) (after p.ending value.1)

-- a node of a form that is read exactly
pub form_exact : (form : Form) (text : List ℕ) → is_exact form.mode ≡ true
    → (result_ok (head_in exact form text) >>= rest_read form) ≡ form_read form text
form_exact form text mode = by (after form.start text) ∙ sym (ap (λ (b : Bool). cond b (after form.start text >>= fields) None) mode)
  where
    fields : List ℕ → Option (List ℕ × List ℕ)
    fields t = pieces_put form.pieces (blank form) t >>= rest_read form

    by : (o : Option (List ℕ)) → (result_ok (ok_or o tt >? pieces_in exact form.pieces (blank form)) >>= rest_read form)
        ≡ (o >>= fields)
    by None = refl
    by (Some rest) = ap (λ (o : Option (List ℕ × List ℕ)). o >>= rest_read form) (pieces_exact form.pieces (blank form) rest)
