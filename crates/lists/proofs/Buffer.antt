-- Laws of buffers: lengths, one list behind or over another, one element stored, what is wiped behind, and buffers that were mapped.
-- Assumes nothing.
use Prim.Native.Nat.{ℕ, zero, suc, ◌+◌, ◌-◌, ◌<◌, ◌≤◌}
use native.Mathlib.Nat.{add-zero, zero-add}
use native.Mathlib.Omega.{arith}
use mathlib.Core.Path.{◌≡◌, refl, sym, ap, ap₂, ◌∙◌}
use mathlib.Core.List.{List, [], ◌∷◌, ◌++◌, map, map-append, append_assoc, append-nil}
use lib.ListN.{length, get_or, take, drop, set, replicate, length-append, length-drop, length-take, length-replicate, length-map}
use lib.ListN.{take-append-drop, get_or-append, length-set}
use lib.Seq.{take-append_seam, drop-append-add, drop-append-le, drop-drop, drop-cons, set_at, take_at, drop_at, take-suc, length-take-le}
use lib.Seq.{get_or-take, get_or-append-add, get_or-drop, set-append_left}
use borrow.Rule.Slice.PartMut.{put_mid}
use native.Mathlib.Numerals.{add-one}
use Rattle.lists.specs.Tab.{tab}
use Rattle.lists.specs.Buffer.{front, placed, wiped_from}
use Rattle.lists.proofs.Tab.{length-tab}

module _ {A : Type 0} where
  pub front_length : (vs d : List A) → length vs ≤ length d → length (front vs d) ≡ length d
  front_length vs d h = omega (arith, length-append vs (drop (length vs) d), length-drop (length vs) d)

  pub front-take : (vs d : List A) (n : ℕ) → n ≡ length vs → take n (front vs d) ≡ vs
  front-take vs d n e = take_at vs (drop (length vs) d) n (sym e)

  pub front-drop : (vs d : List A) (n : ℕ) → n ≡ length vs → drop n (front vs d) ≡ drop n d
  front-drop vs d n e = drop_at vs (drop (length vs) d) n (sym e) ∙ ap (λ (k : ℕ). drop k d) (sym e)

  -- the buffer begins with its own first n; other elements, at least as many, come first
  pub front_same : (n : ℕ) (d : List A) → n ≤ length d → d ≡ front (take n d) d
  front_same n d h = sym (ap (λ (k : ℕ). take n d ++ drop k d) (length-take-le n d h) ∙ take-append-drop n d)

  pub front-again : (vs us d : List A) → length vs ≤ length us → front us (front vs d) ≡ front us d
  front-again vs us d h =
      let e : length us ≡ length vs + (length us - length vs) = omega arith in
      ap (λ (l : List A). us ++ l)
      (ap (λ (k : ℕ). drop k (front vs d)) e
      ∙ drop-append-add vs (drop (length vs) d) (length us - length vs)
      ∙ drop-drop (length us - length vs) (length vs) d
      ∙ ap (λ (k : ℕ). drop k d) (sym e))

  -- a list over a longer one that stands first
  pub front-over : (us vs d : List A) → length us ≤ length vs → front us (front vs d) ≡ front (front us vs) d
  front-over us vs d h =
      let l : length (front us vs) ≡ length vs = front_length us vs h in
      ap (λ (t : List A). us ++ t) (drop-append-le (length us) vs (drop (length vs) d) h)
      ∙ sym (append_assoc us (drop (length us) vs) (drop (length vs) d))
      ∙ ap (λ (k : ℕ). us ++ drop (length us) vs ++ drop k d) (sym l)

  -- what stands behind vs
  pub front-behind : (vs d : List A) (i : ℕ) (z : A) → length vs ≤ i → get_or (front vs d) i z ≡ get_or d i z
  front-behind vs d i z h =
      let e : i ≡ length vs + (i - length vs) = omega arith in
      ap (λ (k : ℕ). get_or (front vs d) k z) e
      ∙ get_or-append-add vs (drop (length vs) d) (i - length vs) z
      ∙ get_or-drop (length vs) d (i - length vs) z
      ∙ ap (λ (k : ℕ). get_or d k z) (sym e)

  -- one of vs replaced
  pub front-set : (vs d : List A) (i : ℕ) (v : A) → i < length vs → set (front vs d) i v ≡ front (set vs i v) d
  front-set vs d i v h = set-append_left vs (drop (length vs) d) i v h ∙ ap (λ (k : ℕ). set vs i v ++ drop k d) (sym (length-set vs i v))

  -- us behind vs, with which the buffer begins
  pub front-more : (vs us d : List A) (held : ℕ) → held ≡ length vs → placed held us (front vs d) ≡ front (vs ++ us) d
  front-more vs us d held e =
      rw e
      (ap₂ (λ (a b : List A). a ++ us ++ b) (take-append_seam vs (drop (length vs) d))
      (drop-append-add vs (drop (length vs) d) (length us) ∙ drop-drop (length us) (length vs) d
      ∙ ap (λ (n : ℕ). drop n d) (sym (length-append vs us))))

  -- nothing placed; placed before everything; and one element more behind those placed
  pub placed-none : (held : ℕ) (d : List A) → d ≡ placed held [] d
  placed-none held d = sym (rw (add-zero, append-nil) (take-append-drop held d))

  pub placed_first : (vs d : List A) → placed 0 vs d ≡ front vs d
  placed_first vs d = ap (λ (k : ℕ). vs ++ drop k d) (zero-add (length vs))

  pub placed-set : (held : ℕ) (vs d : List A) (v : A) → held + length vs < length d
      → set (placed held vs d) (held + length vs) v ≡ placed held (vs ++ (v ∷ [])) d
  placed-set held vs d v h =
      let n = held + length vs in
      let l : length (take held d ++ vs) ≡ n = length-append (take held d) vs
      ∙ ap (λ (k : ℕ). k + length vs) (length-take-le held d (omega arith)) in
      let e : suc n ≡ held + length (vs ++ (v ∷ [])) = omega (arith, length-append vs (v ∷ [])) in
      rw (drop-cons d (held + length vs) v h)
      (set_at (take held d ++ vs) _ (drop (suc n) d) v n l ∙ ap (λ (k : ℕ). take held d ++ vs ++ v ∷ drop k d) e ∙ simp append_assoc)

  -- one element more behind vs, with which the buffer begins
  pub front-next : (vs d : List A) (n : ℕ) (v : A) → n ≡ length vs → n < length d → set (front vs d) n v ≡ front (vs ++ (v ∷ [])) d
  front-next vs d n v e h =
      ap (λ (l : List A). set l n v) (sym (placed_first vs d))
      ∙ ap (λ (k : ℕ). set (placed 0 vs d) k v) (e ∙ sym (zero-add (length vs)))
      ∙ placed-set 0 vs d v (omega arith)
      ∙ placed_first (vs ++ (v ∷ [])) d

  -- and with the elements of a function
  pub front-tab : (f : ℕ → A) (d : List A) (n : ℕ) → n < length d → set (front (tab n f) d) n (f n) ≡ front (tab (n + 1) f) d
  unfolding tab
  front-tab f d n h = rw (add-one n) (front-next (tab n f) d n (f n) (sym (length-tab n f)) h)

  -- one element more before those placed
  pub placed-cons : (held : ℕ) (vs d : List A) (v : A) → held < length d → set (placed (held + 1) vs d) held v ≡ placed held (v ∷ vs) d
  placed-cons held vs d v h =
      let rest = drop (held + 1 + length vs) d in
      let k : held + 1 + length vs ≡ held + suc (length vs) = omega arith in
      let first : take (held + 1) d ≡ take held d ++ (get_or d held v ∷ []) = ap (λ (i : ℕ). take i d) (add-one held)
      ∙ take-suc d held v h in
      let split : take (held + 1) d ++ vs ++ rest ≡ take held d ++ get_or d held v ∷ (vs ++ rest) = rw first (simp append_assoc) in
      ap (λ (s : List A). set s held v) split
      ∙ set_at (take held d) (get_or d held v) (vs ++ rest) v held (length-take-le held d (omega arith))
      ∙ ap (λ (i : ℕ). take held d ++ v ∷ (vs ++ drop i d)) k
      ∙ simp append_assoc

  pub placed-length : (held : ℕ) (vs d : List A) → held + length vs ≤ length d → length (placed held vs d) ≡ length d
  placed-length held vs d h = simp (length-append, length-take, length-drop) (omega arith)

  -- us behind vs, which are placed already
  pub placed-more : (held n : ℕ) (vs us d : List A) → held ≤ length d → n ≡ held + length vs
      → placed n us (placed held vs d) ≡ placed held (vs ++ us) d
  placed-more held n vs us d h e =
      let l : length (take held d ++ vs) ≡ n = length-append (take held d) vs
      ∙ ap (λ (k : ℕ). k + length vs) (length-take-le held d h) ∙ sym e in
      let k : held + length vs + length us ≡ held + length (vs ++ us) = omega (arith, length-append vs us) in
      let rest : drop (n + length us) (placed held vs d) ≡ drop (held + length (vs ++ us)) d =
      sym (drop-drop (length us) n (placed held vs d))
      ∙ ap (drop (length us)) (drop_at (take held d ++ vs) (drop (held + length vs) d) n l)
      ∙ drop-drop (length us) (held + length vs) d
      ∙ ap (λ (i : ℕ). drop i d) k in
      ap₂ (λ (a b : List A). a ++ us ++ b) (take_at (take held d ++ vs) (drop (held + length vs) d) n l) rest
      ∙ ap (λ (a : List A). a ++ drop (held + length (vs ++ us)) d) (append_assoc (take held d) vs us)

  -- a part of the buffer that comes back as vs
  pub put-placed : (a k : ℕ) (vs d : List A) → k ≡ length vs → put_mid a k d vs ≡ placed a vs d
  put-placed a k vs d e = rw (drop-drop, e) (sym (append_assoc (take a d) vs (drop (a + length vs) d)))

  -- what stands before vs is as it was
  pub placed-before : (held : ℕ) (vs d : List A) (i : ℕ) (z : A) → held ≤ length d → i < held → get_or (placed held vs d) i z ≡ get_or d i z
  placed-before held vs d i z h l =
      ap (λ (s : List A). get_or s i z) (append_assoc (take held d) vs (drop (held + length vs) d))
      ∙ get_or-append (take held d) (vs ++ drop (held + length vs) d) z i (rw (length-take-le held d h) l)
      ∙ get_or-take held d i z l

  -- one of vs
  pub placed_at : (held : ℕ) (vs d : List A) (i : ℕ) (z : A) → held ≤ length d → i < length vs
      → get_or (placed held vs d) (held + i) z ≡ get_or vs i z
  placed_at held vs d i z h l =
      let rest = drop (held + length vs) d in
      ap (λ (s : List A). get_or s (held + i) z) (append_assoc (take held d) vs rest)
      ∙ ap (λ (n : ℕ). get_or (take held d ++ (vs ++ rest)) (n + i) z) (sym (length-take-le held d h))
      ∙ get_or-append-add (take held d) (vs ++ rest) i z
      ∙ get_or-append vs rest z i l

  pub wiped-length : (n : ℕ) (z : A) (d : List A) → n ≤ length d → length (wiped_from n z d) ≡ length d
  wiped-length n z d h = simp (length-append, length-take, length-replicate) (omega arith)

  -- a list that stands first, wiped behind it
  pub wiped-front : (vs d : List A) (z : A) (n : ℕ) → n ≡ length vs → length vs ≤ length d
      → wiped_from n z (front vs d) ≡ vs ++ replicate (length d - length vs) z
  wiped-front vs d z n e h =
      let k : length (front vs d) - n ≡ length d - length vs = omega (arith, front_length vs d h) in
      ap₂ (λ (a : List A) (k : ℕ). a ++ replicate k z) (front-take vs d n e) k

-- ---- what a function makes of each element
module _ {A B : Type 0} (g : A → B) where
  pub map-drop : (k : ℕ) (d : List A) → drop k (map g d) ≡ map g (drop k d)
  map-drop zero d = refl
  map-drop (suc k) [] = refl
  map-drop (suc k) (a ∷ d) = map-drop k d

  pub map-front : (vs d : List A) → front (map g vs) (map g d) ≡ map g (front vs d)
  map-front vs d =
      ap (λ (k : ℕ). map g vs ++ drop k (map g d)) (length-map vs g)
      ∙ ap (λ (l : List B). map g vs ++ l) (map-drop (length vs) d)
      ∙ sym (map-append g vs (drop (length vs) d))
