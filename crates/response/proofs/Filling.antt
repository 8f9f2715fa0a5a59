-- Lists that are filled part by part: places from one on, parts of rows, and what all parts together make. Assumes nothing.
use mathlib.Core.Path.{◌≡◌, refl, sym, ap, ◌∙◌, subst}
use mathlib.Core.List.{List, [], ◌∷◌, ◌++◌}
use Prim.Native.Nat.{ℕ, zero, suc, ◌+◌, ◌*◌, ◌-◌, ◌<◌, ◌≤◌}
use native.Mathlib.Nat.{mul-le-mul_right, suc-mul, zero-mul}
use native.Mathlib.Decide.{dec_lt}
use native.Mathlib.Omega.{arith}
use lib.ListN.{length, get_or, set, take, drop, replicate, length-set, length-append, length-drop, get_or-append}
use Rattle.std.proofs.lemmas.List.{get_or-replicate, length-replicate}
use lib.Seq.{get_or-drop, get_or-take, get_or-append-add, get_or-append_right, length-take-le, ext_get_or, get_or-set_same}
use lib.Seq.{get_or-set_other}
use borrow.Rule.Slice.PartMut.{put_mid, same_len_mid}
use lib.Arith.{lt_of_le-ne}
use Rattle.lists.specs.Tab.{tab, grid}
use Rattle.lists.proofs.Tab.{length-tab, get_d-tab, length-grid, get_d-grid, part_length}
use lib.Ieee.{Float}
use Rattle.float32.specs.Float32 as float32
use Rattle.response.specs.Internal.{Bytes, PlacesWritten, Filled, Cleared}

-- ---- what holds of every element holds with another in a place
pub set_all : (P : ℕ → Type 0) (l : List ℕ) (k q i : ℕ) → ((j : ℕ) → P (get_or l j 0)) → P q → P (get_or (set l k q) i 0)
set_all P [] k q i h p = h i
set_all P (x ∷ l) zero q zero h p = p
set_all P (x ∷ l) zero q (suc i) h p = h (suc i)
set_all P (x ∷ l) (suc k) q zero h p = h 0
set_all P (x ∷ l) (suc k) q (suc i) h p = set_all P l k q i (λ j. h (suc j)) p

pub bytes-set : (l : List ℕ) (k q : ℕ) → Bytes l → q < 256 → Bytes (set l k q)
bytes-set l k q h p i = set_all (λ n. n < 256) l k q i h p

pub bytes-none : (n : ℕ) → Bytes (replicate n 0)
bytes-none zero i = omega arith
bytes-none (suc n) zero = omega arith
bytes-none (suc n) (suc i) = bytes-none n i

-- ---- the places from a up to b hold what f says, and still do when another gets what it should hold
abbrev pub Between : (ℕ → ℕ) → ℕ → ℕ → List ℕ → Type 0
Between f a b s = (i : ℕ) → a ≤ i → i < b → get_or s i 0 ≡ f i

between-set : (f : ℕ → ℕ) (s : List ℕ) (k a b c : ℕ) → k < length s → Between f a b s → ((i : ℕ) → i < c → (i ≡ k → ⊥) → i < b)
    → Between f a c (set s k (f k))
between-set f s k a b c l p wider i u v =
    elim (dec_lt i k) [
      | yes x ↦ let n : i ≡ k → ⊥ = λ e. absurd (omega arith) in get_or-set_other s k i (f k) 0 n ∙ p i u (wider i v n)
      | no x ↦ elim (dec_lt k i) [
        | yes y ↦ let n : i ≡ k → ⊥ = λ e. absurd (omega arith) in get_or-set_other s k i (f k) 0 n ∙ p i u (wider i v n)
        | no y ↦ let e : i ≡ k = omega arith in rw e (get_or-set_same s k (f k) 0 l)
      ]
    ]

-- with k as it is, and with k more by one
between-same : (f : ℕ → ℕ) (s : List ℕ) (k a b : ℕ) → k < length s → Between f a b s → Between f a b (set s k (f k))
between-same f s k a b l p = between-set f s k a b b l p (λ i v n. v)

between_more : (f : ℕ → ℕ) (s : List ℕ) (k a b : ℕ) → k < length s → b ≡ k + 1 → Between f a k s → Between f a b (set s k (f k))
between_more f s k a b l e p = between-set f s k a k b l p (λ i v n. lt_of_le-ne (omega arith) n)

-- sixteen places, filled four at a time: the first k of each quarter
pub record Quarters (f : ℕ → ℕ) (k : ℕ) (s : List ℕ) : Type 0 where
  pub long : length s ≡ 16
  pub first : Between f 0 k s
  pub second : Between f 4 (k + 4) s
  pub third : Between f 8 (k + 8) s
  pub fourth : Between f 12 (k + 12) s

pub quarters-none : (f : ℕ → ℕ) (s : List ℕ) → length s ≡ 16 → Quarters f 0 s
quarters-none f s e =
    record {
      long = e;
      first = λ i u v. absurd (omega arith);
      second = λ i u v. absurd (omega arith);
      third = λ i u v. absurd (omega arith);
      fourth = λ i u v. absurd (omega arith);
    }

pub quarters-set : (f : ℕ → ℕ) (k : ℕ) (s : List ℕ) → k < 4 → Quarters f k s
    → Quarters f (k + 1) (set (set (set (set s (k + 4) (f (k + 4))) k (f k)) (k + 12) (f (k + 12))) (k + 8) (f (k + 8)))
quarters-set f k s small q =
    let s₁ : List ℕ = set s (k + 4) (f (k + 4)) in
    let s₂ : List ℕ = set s₁ k (f k) in
    let s₃ : List ℕ = set s₂ (k + 12) (f (k + 12)) in
    let l₁ : length s₁ ≡ 16 = length-set s (k + 4) (f (k + 4)) ∙ q.long in
    let l₂ : length s₂ ≡ 16 = length-set s₁ k (f k) ∙ l₁ in
    let l₃ : length s₃ ≡ 16 = length-set s₂ (k + 12) (f (k + 12)) ∙ l₂ in
    let a : k + 4 < length s = omega (arith, q.long) in
    let b : k < length s₁ = omega arith in
    let c : k + 12 < length s₂ = omega arith in
    let d : k + 8 < length s₃ = omega arith in
    record {
      long = length-set s₃ (k + 8) (f (k + 8)) ∙ l₃;
      first =
          between-same f s₃ (k + 8) 0 (k + 1) d
          (between-same f s₂ (k + 12) 0 (k + 1) c
          (between_more f s₁ k 0 (k + 1) b refl (between-same f s (k + 4) 0 k a q.first)));
      second =
          between-same f s₃ (k + 8) 4 (k + 1 + 4) d
          (between-same f s₂ (k + 12) 4 (k + 1 + 4) c
          (between-same f s₁ k 4 (k + 1 + 4) b (between_more f s (k + 4) 4 (k + 1 + 4) a (omega arith) q.second)));
      third =
          between_more f s₃ (k + 8) 8 (k + 1 + 8) d (omega arith)
          (between-same f s₂ (k + 12) 8 (k + 8) c (between-same f s₁ k 8 (k + 8) b (between-same f s (k + 4) 8 (k + 8) a q.third)));
      fourth =
          between-same f s₃ (k + 8) 12 (k + 1 + 12) d
          (between_more f s₂ (k + 12) 12 (k + 1 + 12) c (omega arith)
          (between-same f s₁ k 12 (k + 12) b (between-same f s (k + 4) 12 (k + 12) a q.fourth)));
    }

pub quarters-all : (f : ℕ → ℕ) (k : ℕ) (s : List ℕ) → Quarters f k s → 4 ≤ k → s ≡ tab 16 f
quarters-all f k s q l =
    ext_get_or 0 s (tab 16 f) (q.long ∙ sym (length-tab 16 f))
    (λ i v. here i (omega (arith, q.long)) ∙ sym (get_d-tab 16 f i 0 (omega (arith, q.long))))
  where
    here : (i : ℕ) → i < 16 → get_or s i 0 ≡ f i
    here i v =
        elim (dec_lt i 4) [
          | yes x ↦ q.first i (omega arith) (omega arith)
          | no x ↦ elim (dec_lt i 8) [
            | yes y ↦ q.second i (omega arith) (omega arith)
            | no y ↦ elim (dec_lt i 12) [ yes z ↦ q.third i (omega arith) (omega arith) | no z ↦ q.fourth i (omega arith) (omega arith) ]
          ]
        ]

-- ---- places written one after the other
module _ {A : Type 0} (d : A) (at : ℕ) (g : ℕ → A) (s : List A) where
  -- a part of the list that comes back as ys
  module _ (n : ℕ) (ys : List A) (fits : at + n ≤ length s) where
    pub written-part : length ys ≡ n → ((i : ℕ) → i < n → get_or ys i d ≡ g i) → PlacesWritten d at n g s (put_mid at (at + n - at) s ys)
    written-part own each =
        record {
          long = same_len_mid at (at + n - at) s ys (own ∙ sym (part_length at n s fits));
          within = λ i p.
              get_or-append_right (take at s) (ys ++ post) (at + i) d (omega (arith, front))
              ∙ ap (λ (z : ℕ). get_or (ys ++ post) z d) (omega (arith, front))
              ∙ get_or-append ys post d i (omega (arith, own))
              ∙ each i p;
          before = λ i p. get_or-append (take at s) (ys ++ post) d i (omega (arith, front)) ∙ get_or-take at s i d p;
          behind = λ i p.
              get_or-append_right (take at s) (ys ++ post) i d (omega (arith, front))
              ∙ get_or-append_right ys post (i - length (take at s)) d (omega (arith, front, own))
              ∙ get_or-drop (at + n - at) (drop at s) (i - length (take at s) - length ys) d
              ∙ get_or-drop at s (at + n - at + (i - length (take at s) - length ys)) d
              ∙ ap (λ (z : ℕ). get_or s z d) (omega (arith, front, own));
        }
      where
        post : List A
        post = drop (at + n - at) (drop at s)

        front : length (take at s) ≡ at
        front = length-take-le at s (omega arith)

    -- as long as the part was, element by element
    pub written-tab : ys ≡ tab (length (take (at + n - at) (drop at s))) g → PlacesWritten d at n g s (put_mid at (at + n - at) s ys)
    written-tab is =
        let part = part_length at n s fits in
        written-part (ap length is ∙ length-tab (length (take (at + n - at) (drop at s))) g ∙ part)
        (λ i p. rw (is, part) (get_d-tab n g i d p))

-- places that hold a copy of a part of another list
pub written-copy : (at n from : ℕ) (img s ys : List ℕ) → at + n ≤ length s → from + n ≤ length img
    → ys ≡ take (from + n - from) (drop from img)
    → PlacesWritten 0 at n (λ i. get_or img (from + i) 0) s (put_mid at (at + n - at) s ys)
written-copy at n from img s ys fits lies is =
    written-part 0 at (λ i. get_or img (from + i) 0) s n ys fits (ap length is ∙ part_length from n img lies)
    (λ i p. rw is (get_or-take (from + n - from) (drop from img) i 0 (omega arith) ∙ get_or-drop from img i 0))

-- and bytes stay bytes
pub bytes-written : (at n : ℕ) (g : ℕ → ℕ) (s t : List ℕ) → PlacesWritten 0 at n g s t → Bytes s → ((i : ℕ) → g i < 256) → Bytes t
bytes-written at n g s t wr h new i =
    elim (dec_lt i at) [
      | yes x ↦ rw (wr.before i x) (h i)
      | no x ↦ elim (dec_lt i (at + n)) [
        | yes y ↦
            let e : at + (i - at) ≡ i = omega arith in
            subst (λ (k : ℕ). get_or t k 0 < 256) e (rw (wr.within (i - at) (omega arith)) (new (i - at)))
        | no y ↦ rw (wr.behind i (omega arith)) (h i)
      ]
    ]

-- places that hold one value
pub written-fill : {A : Type 0} (d v : A) (at n : ℕ) (s ys : List A) → at + n ≤ length s
    → ys ≡ replicate (length (take (at + n - at) (drop at s))) v → PlacesWritten d at n (λ _. v) s (put_mid at (at + n - at) s ys)
written-fill d v at n s ys fits is =
    let part = part_length at n s fits in
    written-part d at (λ _. v) s n ys fits (ap length is ∙ length-replicate (length (take (at + n - at) (drop at s))) v ∙ part)
    (λ i p. rw (is, part) (get_or-replicate n i v d p))

-- ---- parts of rows
pub row-after : (w j k : ℕ) → j < k → j * w + w ≤ k * w
row-after w j k l = omega (arith, mul-le-mul_right w l, suc-mul j w)

module _ {A : Type 0} (d : A) (w h : ℕ) (f : ℕ → ℕ → A) where
  pub filled_none : (a b c e : ℕ) (s : List A) → ((i j : ℕ) → a ≤ i → i < b → c ≤ j → j < e → ⊥) → Filled d w h f a b c e s s
  filled_none a b c e s none =
      record {
        long = refl;
        behind = λ i p. refl;
        stays = λ i j p q e. e;
        holds = λ i j p q l r u v. absurd (none i j l r u v);
      }

  pub filled-to : (a b b' c e e' : ℕ) (s t : List A) → b ≡ b' → e ≡ e' → Filled d w h f a b c e s t → Filled d w h f a b' c e' s t
  filled-to a b b' c e e' s t q r p = rw (← q, ← r) p

  -- what is filled at one step stays so at the next
  module _ (a b c e a' b' c' e' : ℕ) (s t u : List A) (p : Filled d w h f a b c e s t) (q : Filled d w h f a' b' c' e' t u) where
    pub first : Filled d w h f a b c e s u
    first =
        record {
          long = q.long ∙ p.long;
          behind = λ i l. q.behind i l ∙ p.behind i l;
          stays = λ i j l m r. q.stays i j l m (p.stays i j l m r);
          holds = λ i j l m x y z v. q.stays i j l m (p.holds i j l m x y z v);
        }

    pub second : Filled d w h f a' b' c' e' s u
    second = record { long = first.long; behind = first.behind; stays = first.stays; holds = q.holds }

  -- two parts beside each other, and two below each other
  pub beside : (a m b c e : ℕ) (s t : List A) → Filled d w h f a m c e s t → Filled d w h f m b c e s t → Filled d w h f a b c e s t
  beside a m b c e s t p q =
      record {
        long = p.long;
        behind = p.behind;
        stays = p.stays;
        holds =
            λ i j x y l r u v.
            elim (dec_lt i m) [ yes z ↦ p.holds i j x y l z u v | no z ↦ q.holds i j x y (omega arith) r u v ];
      }

  pub below : (a b c m e : ℕ) (s t : List A) → Filled d w h f a b c m s t → Filled d w h f a b m e s t → Filled d w h f a b c e s t
  below a b c m e s t p q =
      record {
        long = p.long;
        behind = p.behind;
        stays = p.stays;
        holds =
            λ i j x y l r u v.
            elim (dec_lt j m) [ yes z ↦ p.holds i j x y l r u z | no z ↦ q.holds i j x y l r (omega arith) v ];
      }

  pub then-beside : (a m b c e : ℕ) (s t u : List A) → Filled d w h f a m c e s t → Filled d w h f m b c e t u → Filled d w h f a b c e s u
  then-beside a m b c e s t u p q = beside a m b c e s u (first a m c e m b c e s t u p q) (second a m c e m b c e s t u p q)

  pub then-below : (a b c m e : ℕ) (s t u : List A) → Filled d w h f a b c m s t → Filled d w h f a b m e t u → Filled d w h f a b c e s u
  then-below a b c m e s t u p q = below a b c m e s u (first a b c m a b m e s t u p q) (second a b c m a b m e s t u p q)

  -- all of a map: the rows above and below, what lies left and right between them, and what is inside, in the order of the steps
  pub five : (from to top end : ℕ) (s s₁ s₂ s₃ s₄ t : List A) → Filled d w h f 0 w 0 top s s₁ → Filled d w h f 0 from top end s₁ s₂
      → Filled d w h f to w top end s₂ s₃ → Filled d w h f 0 w end h s₃ s₄ → Filled d w h f from to top end s₄ t
      → Filled d w h f 0 w 0 h s t
  five from to top end s s₁ s₂ s₃ s₄ t above left right under inner =
      let lower : Filled d w h f 0 w end h s₃ t = first 0 w end h from to top end s₃ s₄ t under inner in
      let middle : Filled d w h f from to top end s₃ t = second 0 w end h from to top end s₃ s₄ t under inner in
      let rest : Filled d w h f to w top end s₂ t = first to w top end from to top end s₂ s₃ t right middle in
      let core : Filled d w h f from to top end s₂ t = second to w top end from to top end s₂ s₃ t right middle in
      let east : Filled d w h f from w top end s₂ t = beside from to w top end s₂ t core rest in
      let south : Filled d w h f 0 w end h s₂ t = second to w top end 0 w end h s₂ s₃ t right lower in
      let row : Filled d w h f 0 w top end s₁ t = then-beside 0 from w top end s₁ s₂ t left east in
      let rows : Filled d w h f 0 w top h s₁ t = below 0 w top end h s₁ t row (second 0 from top end 0 w end h s₁ s₂ t left south) in
      then-below 0 w 0 top h s s₁ t above rows

  -- n places written in row k from column c on
  module _ (at n c b k : ℕ) (g : ℕ → A) (s t : List A) (wr : PlacesWritten d at n g s t) (is : at ≡ k * w + c) (end : b ≡ c + n)
      (fits : b ≤ w) (lies : k < h)
      (right : (i : ℕ) → i < n → g i ≡ f (c + i) k) where
    here : (i j : ℕ) → c ≤ i → i < c + n → j ≡ k → get_or t (j * w + i) d ≡ f i j
    here i j l r e =
        let col : c + (i - c) ≡ i = omega arith in
        let place : j * w + i ≡ at + (i - c) = omega (arith, ap (λ (v : ℕ). v * w) e) in
        ap (λ (v : ℕ). get_or t v d) place ∙ wr.within (i - c) (omega arith) ∙ right (i - c) (omega arith)
        ∙ ap (λ (v : ℕ). f v k) col ∙ ap (f i) (sym e)

    still : (i j : ℕ) → i < w → j < h → get_or s (j * w + i) d ≡ f i j → get_or t (j * w + i) d ≡ f i j
    still i j p q e =
        elim (dec_lt j k) [
          | yes above ↦ wr.before (j * w + i) (omega (arith, row-after w j k above)) ∙ e
          | no x ↦ elim (dec_lt k j) [
            | yes under ↦ wr.behind (j * w + i) (omega (arith, row-after w k j under)) ∙ e
            | no y ↦ let row : j ≡ k = omega arith in
                let rows : j * w ≡ k * w = ap (λ (v : ℕ). v * w) row in
                elim (dec_lt i c) [
                  | yes left ↦ wr.before (j * w + i) (omega arith) ∙ e
                  | no z ↦ elim (dec_lt i (c + n)) [ yes r ↦ here i j (omega arith) r row | no v ↦ wr.behind (j * w + i) (omega arith) ∙ e ]
                ]
          ]
        ]

    pub row-filled : Filled d w h f c b k (k + 1) s t
    row-filled =
        record {
          long = wr.long;
          behind = λ i l. wr.behind i (omega (arith, row-after w k h lies));
          stays = still;
          holds = λ i j p q l r u v. here i j l (omega arith) (omega arith);
        }

  -- every place of h rows is one of a column and a row
  each-place : (h i : ℕ) → i < h * w → (P : ℕ → Type 0) → ((p q : ℕ) → p < w → q < h → P (q * w + p)) → P i
  each-place zero i l P at = absurd (omega (arith, zero-mul w))
  each-place (suc h) i l P at =
      elim (dec_lt i (h * w)) [
        | yes x ↦ each-place h i x P (λ p q u v. at p q u (omega arith))
        | no x ↦
            let e : h * w + (i - h * w) ≡ i = omega arith in
            subst P e (at (i - h * w) h (omega (arith, suc-mul h w)) (omega arith))
      ]

  -- all places: the grid, and what stood behind it
  pub all-filled : (s t : List A) → Filled d w h f 0 w 0 h s t → h * w ≤ length s → t ≡ grid w h f ++ drop (h * w) s
  all-filled s t p room =
      ext_get_or d t (grid w h f ++ drop (h * w) s) (simp (length-append, length-grid, length-drop, p.long) (omega arith)) each
    where
      each : (i : ℕ) → i < length t → get_or t i d ≡ get_or (grid w h f ++ drop (h * w) s) i d
      each i l =
          elim (dec_lt i (h * w)) [
            | yes x ↦
                each-place h i x (λ k. get_or t k d ≡ get_or (grid w h f) k d)
                (λ a b u v. p.holds a b u v (omega arith) u (omega arith) v ∙ sym (get_d-grid w h f a b d u v))
                ∙ sym (get_or-append (grid w h f) (drop (h * w) s) d i (rw length-grid x))
            | no x ↦
                let e : h * w + (i - h * w) ≡ i = omega arith in
                p.behind i (omega arith)
                ∙ ap (λ (z : ℕ). get_or s z d) (sym e)
                ∙ sym (get_or-drop (h * w) s (i - h * w) d)
                ∙ sym (get_or-append-add (grid w h f) (drop (h * w) s) (i - h * w) d)
                ∙ ap (λ (z : ℕ). get_or (grid w h f ++ drop (h * w) s) z d) (rw length-grid e)
          ]

-- ---- cells that are 0
pub cleared-none : (w a b c : ℕ) (s : List Float) → Cleared w a b c c s s
cleared-none w a b c s h f l none = filled_none float32.zero w h f a b c c s (λ i j p q u v. absurd (omega arith))

pub cleared-row : (w a b c j : ℕ) (s t u : List Float) → a ≤ b → b ≤ w → c ≤ j → Cleared w a b c j s t
    → PlacesWritten float32.zero (j * w + a) (b - a) (λ _. float32.zero) t u → Cleared w a b c (j + 1) s u
cleared-row w a b c j s t u o fits lies p wr h f l none =
    then-below float32.zero w h f a b c j (j + 1) s t u (p h f (omega arith) (λ i k x y z v. none i k x y z (omega arith)))
    (row-filled float32.zero w h f (j * w + a) (b - a) a b j (λ _. float32.zero) t u wr refl (omega arith) fits (omega arith)
    (λ i q. sym (none (a + i) j (omega arith) (omega arith) lies (omega arith))))

pub cleared-end : (w a b c j e : ℕ) (s t : List Float) → Cleared w a b c j s t → j ≡ e → Cleared w a b c e s t
cleared-end w a b c j e s t p q = subst (λ (k : ℕ). Cleared w a b c k s t) q p
