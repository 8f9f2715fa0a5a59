-- Laws of elements, of `tab` and of `grid`: lengths, elements, and what a loop that fills a list from the front needs. Assumes nothing.
use mathlib.Core.Path.{◌≡◌, refl, ap, sym, ◌∙◌, subst}
use mathlib.Core.List.{List, [], ◌∷◌, ◌++◌, append_assoc, append-nil, map, map-append}
use Prim.Native.Nat.{ℕ, zero, suc, ◌+◌, ◌*◌, ◌-◌, ◌<◌, ◌≤◌}
use native.Mathlib.Nat.{add-zero, add-suc, suc-mul, zero-mul, eq-or-lt_of_le, le_of_suc-le-suc, not-suc-le-zero, mul-le-mul_right}
use native.Mathlib.Numerals.{add-one}
use native.Mathlib.Decide.{dec_lt}
use native.Mathlib.Omega.{arith}
use mathlib.Core.Logic.{⊎_elim}
use lib.ListN.{length, get_or, take, drop, set, length-append, get_or-append, get_or-eq_default, length-take, length-drop, length-set}
use borrow.Rule.Slice.PartMut.{put_mid}
use lib.Seq.{take-suc-set, take_all, take-take, length-take-le, get_or-take, take_at, drop_at, get_or_at, drop-drop, get_or-append-add}
use Rattle.lists.specs.Tab.{tab, grid}

-- what stands for the elements past a list's end does not show before it
pub get_d_any : {A : Type 0} (s : List A) (i : ℕ) (d d' : A) → i < length s → get_or s i d ≡ get_or s i d'
get_d_any [] i d d' h = absurd (not-suc-le-zero h)
get_d_any (a ∷ s) zero d d' h = refl
get_d_any (a ∷ s) (suc i) d d' h = get_d_any s i d d' (le_of_suc-le-suc h)

-- a list of len elements whose first n are those of f
pub record Prefix {A : Type 0} (len : ℕ) (f : ℕ → A) (n : ℕ) (s : List A) : Type 0 where
  pub long : length s ≡ len
  pub front : take n s ≡ tab n f

module _ {A : Type 0} where
  pub length-tab : (n : ℕ) (f : ℕ → A) → length (tab n f) ≡ n
  unfolding tab
  length-tab zero f = refl
  length-tab (suc n) f = length-append (tab n f) (f n ∷ []) ∙ ap (λ (k : ℕ). k + 1) (length-tab n f) ∙ add-one n

  -- the element at i
  pub get_d-tab : (n : ℕ) (f : ℕ → A) (i : ℕ) (d : A) → i < n → get_or (tab n f) i d ≡ f i
  unfolding tab
  get_d-tab zero f i d h = absurd (not-suc-le-zero h)
  get_d-tab (suc n) f i d h =
      ⊎_elim
      (λ (e : i ≡ n). rw e (get_or_at (tab n f) (f n) [] d n (length-tab n f)))
      (λ (l : i < n). get_or-append (tab n f) (f n ∷ []) d i (rw length-tab l) ∙ get_d-tab n f i d l)
      (eq-or-lt_of_le (le_of_suc-le-suc h))

  -- what holds of each of its elements, and of the element that stands for those past its end
  pub get_d-tab-any : (P : A → Type 0) (d : A) → P d → (f : ℕ → A) → ((i : ℕ) → P (f i)) → (n k : ℕ) → P (get_or (tab n f) k d)
  get_d-tab-any P d p f q n k =
      elim (dec_lt k n) [
        | yes l ↦ rw (get_d-tab n f k d l) (q k)
        | no g ↦ rw (get_or-eq_default (tab n f) d {n = k} (rw length-tab (omega arith))) p
      ]

  -- two functions that agree below n
  pub tab-ext : (n : ℕ) (f g : ℕ → A) → ((i : ℕ) → i < n → f i ≡ g i) → tab n f ≡ tab n g
  unfolding tab
  tab-ext zero f g e = refl
  tab-ext (suc n) f g e = rw (tab-ext n f g (λ i h. e i (omega arith)), e n (omega arith))

  pub tab-add : (n k : ℕ) (f : ℕ → A) → tab (n + k) f ≡ tab n f ++ tab k (λ i. f (n + i))
  unfolding tab
  tab-add n zero f = rw (add-zero, append-nil)
  tab-add n (suc k) f = rw (add-suc, tab-add n k f, append_assoc)

  pub length-grid : (w h : ℕ) (f : ℕ → ℕ → A) → length (grid w h f) ≡ h * w
  unfolding grid
  length-grid w zero f = sym (zero-mul w)
  length-grid w (suc h) f =
      length-append (grid w h f) (tab w (λ x. f x h)) ∙ rw (length-grid w h f, length-tab w (λ x. f x h), suc-mul)

  -- the cell of column x and row y
  pub get_d-grid : (w h : ℕ) (f : ℕ → ℕ → A) (x y : ℕ) (d : A) → x < w → y < h → get_or (grid w h f) (y * w + x) d ≡ f x y
  unfolding grid
  get_d-grid w zero f x y d hx hy = absurd (not-suc-le-zero hy)
  get_d-grid w (suc h) f x y d hx hy =
      ⊎_elim
      (λ (e : y ≡ h).
      rw (e, ← length-grid w h f)
      (get_or-append-add (grid w h f) (tab w (λ i. f i h)) x d ∙ get_d-tab w (λ i. f i h) x d hx))
      (λ (l : y < h).
      get_or-append (grid w h f) (tab w (λ i. f i h)) d (y * w + x)
      (rw length-grid (omega (arith, mul-le-mul_right w l, suc-mul y w)))
      ∙ get_d-grid w h f x y d hx l)
      (eq-or-lt_of_le (le_of_suc-le-suc hy))

  -- what holds of each of its cells, and of the element that stands for those past its end
  pub get_d-grid-any : (P : A → Type 0) (d : A) → P d → (f : ℕ → ℕ → A) → ((x y : ℕ) → P (f x y)) → (w h k : ℕ)
      → P (get_or (grid w h f) k d)
  unfolding grid
  get_d-grid-any P d p f q w zero k = p
  get_d-grid-any P d p f q w (suc h) k =
      elim (dec_lt k (length (grid w h f))) [
        | yes l ↦ rw (get_or-append (grid w h f) (tab w (λ x. f x h)) d k l) (get_d-grid-any P d p f q w h k)
        | no g ↦
            let e : k ≡ length (grid w h f) + (k - length (grid w h f)) = omega arith in
            rw (e, get_or-append-add (grid w h f) (tab w (λ x. f x h)) (k - length (grid w h f)) d)
            (get_d-tab-any P d p (λ x. f x h) (λ x. q x h) w (k - length (grid w h f)))
      ]

  -- two functions that agree in each cell
  pub grid-ext : (w h : ℕ) (f g : ℕ → ℕ → A) → ((x y : ℕ) → x < w → y < h → f x y ≡ g x y) → grid w h f ≡ grid w h g
  unfolding grid
  grid-ext w zero f g e = refl
  grid-ext w (suc h) f g e =
      rw (grid-ext w h f g (λ x y p q. e x y p (omega arith)), tab-ext w (λ x. f x h) (λ x. g x h) (λ x p. e x h p (omega arith)))

  -- with no rows filled the list is as it was
  pub grid-none : (w : ℕ) (f : ℕ → ℕ → A) (d : List A) → d ≡ grid w 0 f ++ drop 0 d
  unfolding grid
  grid-none w f d = refl

  -- one row more, put in the place of the next w elements
  pub grid-put : (w j a n : ℕ) (f : ℕ → ℕ → A) (d s ys : List A) → s ≡ grid w j f ++ drop a d → a ≡ j * w → ys ≡ tab n (λ x. f x j) → n ≡ w
      → put_mid a (a + w - a) s ys ≡ grid w (j + 1) f ++ drop (a + w) d
  unfolding grid
  grid-put w j a n f d s ys p e q m =
      let k : a + w - a ≡ w = omega arith in
      let l : length (grid w j f) ≡ a = length-grid w j f ∙ sym e in
      rw (k, p, take_at (grid w j f) (drop a d) a l, drop_at (grid w j f) (drop a d) a l, drop-drop, q, m, add-one, append_assoc)

  pub grid-all : (w j h a : ℕ) (f : ℕ → ℕ → A) (d s : List A) → s ≡ grid w j f ++ drop a d → a ≡ j * w → j ≡ h
      → s ≡ grid w h f ++ drop (h * w) d
  grid-all w j h a f d s p e q = rw (p, e, q)

-- ---- a list that is filled from the front

module _ {A : Type 0} (len : ℕ) (f : ℕ → A) where
  pub prefix-none : (s : List A) → length s ≡ len → Prefix len f 0 s
  unfolding tab
  prefix-none s l = record { long = l; front = refl }

  -- one store more
  pub prefix-set : (n : ℕ) (s : List A) (v : A) → Prefix len f n s → n < len → v ≡ f n → Prefix len f (n + 1) (set s n v)
  unfolding tab
  prefix-set n s v p h e =
      record {
        long = length-set s n v ∙ p.long;
        front = rw (add-one, take-suc-set s n v (rw p.long h), p.front, e);
      }

  -- a part more
  pub prefix-put : (n k m : ℕ) (s ys : List A) → Prefix len f n s → n + k ≤ len → ys ≡ tab m (λ i. f (n + i)) → m ≡ k
      → Prefix len f (n + k) (put_mid n (n + k - n) s ys)
  prefix-put n k m s ys p h e q =
      let l : length (take n s) ≡ n = length-take-le n s (omega (arith, p.long)) in
      let ml : length ys ≡ k = ap length e ∙ length-tab m (λ i. f (n + i)) ∙ q in
      let d : n + k - n ≡ k = omega arith in
      record {
        long = rw d (simp (length-append, length-drop) (omega (arith, p.long)));
        front =
            ap (take (n + k)) (sym (append_assoc (take n s) ys (drop (n + k - n) (drop n s))))
            ∙ take_at (take n s ++ ys) (drop (n + k - n) (drop n s)) (n + k) (length-append (take n s) ys ∙ rw (l, ml))
            ∙ rw (p.front, e, q) (sym (tab-add n k f));
      }

  -- what stands at a place that is filled
  pub prefix-at : (n : ℕ) (s : List A) (i : ℕ) (d : A) → Prefix len f n s → i < n → get_or s i d ≡ f i
  prefix-at n s i d p h = sym (get_or-take n s i d h) ∙ rw p.front (get_d-tab n f i d h)

  -- with all filled it is the list itself
  pub prefix-all : (n m : ℕ) (s : List A) → Prefix len f n s → n ≡ len → len ≡ m → s ≡ tab m f
  prefix-all n m s p e q = sym (take_all n s (omega (arith, p.long))) ∙ p.front ∙ rw (e, q)

-- a part more that begins at a place before the one that is reached
module _ {A : Type 0} (len : ℕ) (f : ℕ → A) (a n : ℕ) (s : List A) (p : Prefix len f n s) (l : a ≤ n) where
  prefix-less : Prefix len f a s
  prefix-less =
      let k : n ≡ a + (n - a) = omega arith in
      record {
        long = p.long;
        front =
            sym (take-take a n s l)
            ∙ ap (take a) (p.front ∙ ap (λ (m : ℕ). tab m f) k ∙ tab-add a (n - a) f)
            ∙ take_at (tab a f) (tab (n - a) (λ i. f (a + i))) a (length-tab a f);
      }

  pub prefix-over : (e m : ℕ) (ys : List A) → a ≤ e → e ≤ len → ys ≡ tab m (λ i. f (a + i)) → m ≡ e - a
      → Prefix len f e (put_mid a (e - a) s ys)
  prefix-over e m ys b h q r =
      let k : a + (e - a) ≡ e = omega arith in
      subst (λ (z : ℕ). Prefix len f z (put_mid a (z - a) s ys)) k (prefix-put len f a (e - a) m s ys prefix-less (omega arith) q r)

-- a function of each element
pub map-tab : {A B : Type 0} (g : A → B) (f : ℕ → A) (n : ℕ) → map g (tab n f) ≡ tab n (λ i. g (f i))
unfolding tab
map-tab g f zero = refl
map-tab {B = B} g f (suc n) = map-append g (tab n f) (f n ∷ []) ∙ ap (λ (l : List B). l ++ (g (f n) ∷ [])) (map-tab g f n)

-- the rows' ends lie in the list
pub row-end : (w h j a n : ℕ) → j < h → a ≡ j * w → h * w ≤ n → a + w ≤ n
row-end w h j a n l e r = omega (arith, mul-le-mul_right w l, suc-mul j w)

pub part_length : {A : Type 0} (a w : ℕ) (s : List A) → a + w ≤ length s → length (take (a + w - a) (drop a s)) ≡ w
part_length a w s l = simp (length-take, length-drop) (omega arith)

pub part-length-to : {A : Type 0} (a e : ℕ) (s : List A) → e ≤ length s → length (take (e - a) (drop a s)) ≡ e - a
part-length-to a e s l = simp (length-take, length-drop) (omega arith)
