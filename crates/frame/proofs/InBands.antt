-- A whole image's map by bands of rows: a band computed holds more of its rows, the corners of complete rows are those of the map, and
-- bands one after the other have all of its corners. Assumes nothing.
use Prim.Native.Nat.{ℕ, zero, suc, ◌+◌, ◌-◌, ◌*◌, ◌<◌, ◌≤◌, min, max}
use native.Mathlib.Nat.{eq-zero-or-pos, zero-mul, mul-zero, add-zero, add-suc, add-mul, mul_comm, mul-le-mul, mul-le-mul_right, le_trans}
use native.Mathlib.Omega.{arith}
use native.Mathlib.Decide.{dec_lt}
use mathlib.Core.Path.{◌≡◌, refl, sym, ap, ap₂, subst, ◌∙◌}
use mathlib.Core.Logic.{⊎_elim}
use mathlib.Core.Bool.{Bool}
use mathlib.Core.List.{List, [], ◌++◌, map, append-nil, append_assoc}
use lib.ListN.{length, take, drop, length-append}
use lib.Seq.{take_at, take-append-add, drop-length, length-take-le}
use lib.Ieee.{Float}
use borrow.Rule.Slice.PartMut.{put_mid}
use Rattle.std.specs.Prelude.{Result, Ok, Err}
use Rattle.lists.specs.declared.refusal.Refusal.{Refusal}
use Rattle.lists.specs.Tab.{tab, grid}
use Rattle.lists.specs.Places.{Place, block, keep, sum_of}
use Rattle.lists.proofs.Tab.{length-grid, grid-ext, part-length-to}
use Rattle.lists.proofs.Buffer.{put-placed}
use Rattle.lists.proofs.Places.{block-end}
use Rattle.ring.specs.Ring.{ring_of}
use Rattle.ring.proofs.Places.{ring_is, ring-small}
use Rattle.response.specs.Response.{response_at}
use Rattle.response.specs.Patch.{View, whole, map_width, map_height, cells, response_in, refusal_of, Patched}
use Rattle.response.specs.declared.Patch.{Patch}
use Rattle.response.proofs.Outcome.{allowed}
use Rattle.response.proofs.Map.{cells-length, accepted, never-refused, filled, Made, box-cols, box-rows, whole-cols, whole-rows}
use Rattle.corner_list.specs.declared.Corner.{Corner}
use Rattle.corner_list.specs.CornerList.{Slices}
use Rattle.detect.specs.declared.Peaks.{Peaks}
use Rattle.detect.specs.Peaks.{peak_places}
use Rattle.detect.specs.Detect.{peak_in, peaks_in, start_at, ties_at, conditions}
use Rattle.detect.proofs.Answers.{Clear, sound-clear, added-tells, refused-tells}
use Rattle.frame_params.specs.declared.FrameParams.{FrameParams}
use Rattle.patch_corners.specs.OneMap.{choice_of, corners_in, ties_on}
use Rattle.patch_corners.specs.MapCorners.{centred, search_with, centres_in, ties_with, peaks_in_rows, centres_in_rows, ties_in_rows}
use Rattle.patch_corners.specs.MapCorners.{RowCornersAdded}
use Rattle.patch_corners.proofs.Fine.{Fine}
use Rattle.patch_corners.proofs.Made.{made-corners, made-ties}
use Rattle.patch_corners.proofs.OfRows.{Cut}
use Rattle.patch_corners.proofs.RowsAlike.{centres-alike, ties-alike, centres-split, ties-split}
use Rattle.frame_params.proofs.Ranges.{Ranges, ranges}
use Rattle.frame_pass.proofs.Maps.{fine-box}
use Rattle.frame_pass.proofs.Ties.{map-tied}
use Rattle.frame.specs.Internal.{FrameChecked, AddsCorners, border_of, RowsHeld, Band}
use Rattle.frame.proofs.Adding.{adds_none, adds-to, adds-more, adds-full, found-lengths}

-- ---- rows of cells in two parts
grid-add : {A : Type 0} (w j n : ℕ) (f : ℕ → ℕ → A) → grid w (j + n) f ≡ grid w j f ++ grid w n (λ x y. f x (j + y))
unfolding grid
grid-add w j zero f = rw add-zero (sym (append-nil (grid w j f)))
grid-add w j (suc n) f =
    rw add-suc
    (ap (λ l. l ++ tab w (λ x. f x (j + n))) (grid-add w j n f)
    ∙ append_assoc (grid w j f) (grid w n (λ x y. f x (j + y))) (tab w (λ x. f x (j + n))))

-- ---- the first rows, and the next 64
pub rows_none : (v : View) (w : ℕ) (m : List Float) → RowsHeld v w 0 m
unfolding grid
rows_none v w m = record { rest = m; is = refl }

-- an image of some pixels
pub some-sides : (n w h : ℕ) → n ≡ w * h → 0 < n → (0 < w) × (0 < h)
some-sides n w h e l = (
  ⊎_elim (λ (z : w ≡ 0). absurd (let no : ⊥ = omega (arith, ap (λ (k : ℕ). k * h) z, zero-mul h) in no)) (λ k. k) (eq-zero-or-pos w),
  ⊎_elim (λ (z : h ≡ 0). absurd (let no : ⊥ = omega (arith, ap (λ (k : ℕ). w * k) z, mul-zero w) in no)) (λ k. k) (eq-zero-or-pos h),
)

pub band-next : (w h j e : ℕ) → 0 < w → j < h → e ≡ min h (j + 64) → Band w h j e
band-next w h j e wide l k = record { wide = wide; some = omega arith; within = omega arith; deep = λ q. omega arith }

module _ (p : FrameParams) (img : List ℕ) (w h : ℕ) where
  abbrev All : View
  All = whole img w h (ring_of p.ring)

  -- ---- a band is computed
  module _ (j e : ℕ) (band : Band w h j e) where
    abbrev rows : View
    rows = record { img = img; w = w; h = h; ring = ring_of p.ring; x0 = 0; y0 = j; x1 = w; y1 = e }

    cols-are : map_width rows ≡ w
    cols-are = box-cols rows band.wide band.some (omega arith) band.within ∙ omega arith

    rows_are : map_height rows ≡ e - j
    rows_are = box-rows rows band.wide band.some (omega arith) band.within

    rows-cells : cells rows ≡ grid w (e - j) (λ x y. response_in All x (j + y))
    unfolding cells
    rows-cells =
        ap₂ (λ (a b : ℕ). grid a b (response_in rows)) cols-are rows_are
        ∙ grid-ext w (e - j) (response_in rows) (λ x y. response_in All x (j + y))
        (λ x y k l. let z : min j h + y ≡ min 0 h + (j + y) = omega (arith, band.some, band.within) in
        ap (λ (i : ℕ). response_at img w h (ring_of p.ring) (min 0 w + x) i) z)

    pub band-order : j * w ≤ e * w
    band-order = let k : j ≤ e = omega (arith, band.some) in mul-le-mul_right w k

    module _ (d : List Float) (ready : FrameChecked p img w h (length d)) where
      pub band-end : e * w ≤ length d
      band-end = omega (arith, ready.enough, mul-le-mul_right w band.within, mul_comm w h)

      pub band-small : e * w ≤ 4096 * 4096
      band-small = mul-le-mul (le_trans band.within ready.sound.low) ready.sound.narrow

      pub map-end : h * w ≤ length d
      map-end = omega (arith, ready.enough, mul_comm w h)

      pub map-small : h * w ≤ 4096 * 4096
      map-small = mul-le-mul ready.sound.low ready.sound.narrow

      band-size : e * w - j * w ≡ (e - j) * w
      band-size = let k : e ≡ e - j + j = omega (arith, band.some) in omega (arith, ap (λ (n : ℕ). n * w) k, add-mul (e - j) j w)

      abbrev part : List Float
      part = take (e * w - j * w) (drop (j * w) d)

      part-long : length part ≡ (e - j) * w
      part-long = part-length-to (j * w) (e * w) d band-end ∙ band-size

      module _ (m : Result Patch Refusal) (ys : List Float) (patched : Patched rows p.ring part m ys) (held : RowsHeld All w j d) where
        free : refusal_of rows p.ring (length part) ≡ 0
        free =
            allowed rows p.ring (length part)
            (record {
              narrow = ready.sound.narrow;
              low = ready.sound.low;
              sized = ready.sound.sized;
              known = ring_is p.ring (ranges p ready.sound.fit).ring;
              enough = let k : map_height rows * map_width rows ≡ (e - j) * w = ap₂ (λ (a b : ℕ). a * b) rows_are cols-are in
                  omega (arith, k, part-long);
            })

        -- it is not refused
        pub band-free : (x : Refusal) → m ≡ Err x → ⊥
        band-free = never-refused rows p.ring part ys m patched free

        made : Made rows (cells rows) part ys (map_width rows) (map_height rows)
        made =
            filled rows p.ring part ys m patched (map_width rows) (map_height rows) (accepted rows p.ring part ys m patched free)

        as_long : length (cells rows) ≡ length part
        as_long = cells-length rows ∙ ap₂ (λ (a b : ℕ). a * b) rows_are cols-are ∙ sym part-long

        computed : ys ≡ grid w (e - j) (λ x y. response_in All x (j + y))
        computed =
            made.fills
            ∙ ap (λ (n : ℕ). cells rows ++ drop n part) as_long
            ∙ ap (λ (l : List Float). cells rows ++ l) (drop-length part)
            ∙ append-nil (cells rows)
            ∙ rows-cells

        long : length ys ≡ e * w - j * w
        long = ap length computed ∙ length-grid w (e - j) (λ x y. response_in All x (j + y)) ∙ sym band-size

        pub band-held : RowsHeld All w e (put_mid (j * w) (e * w - j * w) d ys)
        band-held = record {
          rest = drop (j * w + length ys) d;
          is = put-placed (j * w) (e * w - j * w) ys d (sym long)
              ∙ ap (λ (l : List Float). l ++ ys ++ drop (j * w + length ys) d) before
              ∙ ap (λ (l : List Float). l ++ drop (j * w + length ys) d)
              (ap (λ (l : List Float). grid w j (response_in All) ++ l) computed ∙ sym (grid-add w j (e - j) (response_in All)) ∙ to_end);
        }
          where
            before : take (j * w) d ≡ grid w j (response_in All)
            before =
                ap (take (j * w)) held.is ∙ take_at (grid w j (response_in All)) held.rest (j * w) (length-grid w j (response_in All))

            to_end : grid w (j + (e - j)) (response_in All) ≡ grid w e (response_in All)
            to_end = let k : j + (e - j) ≡ e = omega (arith, band.some) in ap (λ (n : ℕ). grid w n (response_in All)) k

    -- ---- and its corners are those of the map
    module _ (d : List Float) (ready : FrameChecked p img w h (length d)) (exact : Bool) (held : RowsHeld All w e d) where
      abbrev Rows : List Float
      Rows = grid w e (response_in All)

      abbrev after : List Float
      after = take (h * w - e * w) held.rest

      abbrev others : List Float
      others = grid w (h - e) (λ x y. response_in All x (e + y))

      rows_long : length Rows ≡ e * w
      rows_long = length-grid w e (response_in All)

      split : take (h * w) d ≡ Rows ++ after
      split =
          let k : h * w ≡ length Rows + (h * w - e * w) = omega (arith, rows_long, mul-le-mul_right w band.within) in
          ap₂ (λ (n : ℕ) (l : List Float). take n l) k held.is ∙ take-append-add Rows held.rest (h * w - e * w)

      all-cells : cells All ≡ Rows ++ others
      unfolding cells
      all-cells =
          let k : h ≡ e + (h - e) = omega (arith, band.within) in
          ap₂ (λ (a b : ℕ). grid a b (response_in All)) (whole-cols img w h (ring_of p.ring) (omega (arith, band.some, band.within)))
          (whole-rows img w h (ring_of p.ring) band.wide ∙ k)
          ∙ grid-add w e (h - e) (response_in All)

      pub map-long : length (take (h * w) d) ≡ h * w
      map-long = length-take-le (h * w) d (omega (arith, ready.enough, mul_comm w h))

      cells-long : length (cells All) ≡ h * w
      cells-long =
          cells-length All
          ∙ ap₂ (λ (a b : ℕ). a * b) (whole-rows img w h (ring_of p.ring) band.wide)
          (whole-cols img w h (ring_of p.ring) (omega (arith, band.some, band.within)))

      fit : Ranges p
      fit = ranges p ready.sound.fit

      clear_of : (l : List Float) → length l ≡ h * w → Clear (conditions (length l) w h p.ring p.window p.centroid_radius)
      clear_of l k =
          sound-clear (length l) w h p.ring p.window p.centroid_radius
          (record {
            wide = ready.sound.narrow;
            high = ready.sound.low;
            whole = k ∙ mul_comm h w;
            ring_is = fit.ring;
            in_window = fit.window;
            in-radius = fit.centroid_radius;
          })

      cut_of : (l : List Float) → length l ≡ h * w
          → Cut p l w h (j - border_of p) (e - border_of p) e (min (j - border_of p - border_of p) e)
      cut_of l k = record {
        none = (clear_of l k).none;
        end_is = reaches (border_of p) (omega (arith, ring-small p.ring fit.ring, fit.window, fit.centroid_radius));
        top-is = refl;
      }
        where
          reaches : (b : ℕ) → b ≤ 42 → e ≡ min (min (e - b) h + b) h
          reaches b k =
              elim (dec_lt e h) [
                | yes l ↦ omega (arith, band.deep l)
                | no g ↦ omega (arith, band.within)
              ]

      pub band-adds : (x y : ℕ) → x ≡ j - border_of p → y ≡ e - border_of p
          → (n : ℕ) (s : Slices) (answer : Result Peaks Refusal) (s' : Slices)
          → RowCornersAdded p exact (take (h * w) d) w h x y n s answer s'
          → AddsCorners (centres_in_rows p exact (cells All) w h (j - border_of p) (e - border_of p))
          (ties_in_rows p exact (cells All) w h (j - border_of p) (e - border_of p)) n s answer s'
      band-adds x y x-is y-is n s answer s' found =
          let added =
          subst (λ (i : ℕ). RowCornersAdded p exact (take (h * w) d) w h i (e - border_of p) n s answer s') x-is
          (subst (λ (i : ℕ). RowCornersAdded p exact (take (h * w) d) w h x i n s answer s') y-is found) in
          adds-to _ _ n s _ _ answer s' centres ties
          (record {
            added = λ k z. let t = added-tells _ clear-here _ _ n s answer s' added k z in (t.count, t.fits, t.buffer, t.tied);
            refused = λ k z. let t = refused-tells _ clear-here _ _ n s answer s' added k z in (t.refusal, t.short);
            lengths = found-lengths _ clear-here _ _ n s answer s' added;
          })
        where
          clear-here : Clear (conditions (length (take (h * w) d)) w h p.ring p.window p.centroid_radius)
          clear-here = clear_of (take (h * w) d) map-long

          here : length (Rows ++ after) ≡ h * w
          here = ap length (sym split) ∙ map-long

          there : length (Rows ++ others) ≡ h * w
          there = ap length (sym all-cells) ∙ cells-long

          centres : centres_in_rows p exact (take (h * w) d) w h (j - border_of p) (e - border_of p)
              ≡ centres_in_rows p exact (cells All) w h (j - border_of p) (e - border_of p)
          centres =
              ap (λ (l : List Float). centres_in_rows p exact l w h (j - border_of p) (e - border_of p)) split
              ∙ centres-alike p exact Rows after others w h (j - border_of p) (e - border_of p) e
              (min (j - border_of p - border_of p) e) rows_long
              (cut_of (Rows ++ after) here) (cut_of (Rows ++ others) there) (here ∙ sym there)
              ∙ ap (λ (l : List Float). centres_in_rows p exact l w h (j - border_of p) (e - border_of p)) (sym all-cells)

          ties : ties_in_rows p exact (take (h * w) d) w h (j - border_of p) (e - border_of p)
              ≡ ties_in_rows p exact (cells All) w h (j - border_of p) (e - border_of p)
          ties =
              ap (λ (l : List Float). ties_in_rows p exact l w h (j - border_of p) (e - border_of p)) split
              ∙ ties-alike p exact Rows after others w h (j - border_of p) (e - border_of p) e
              (min (j - border_of p - border_of p) e) rows_long
              (cut_of (Rows ++ after) here) (cut_of (Rows ++ others) there) (here ∙ sym there)
              ∙ ap (λ (l : List Float). ties_in_rows p exact l w h (j - border_of p) (e - border_of p)) (sym all-cells)

  -- ---- bands one after the other
  module _ (exact : Bool) where
    -- the corners, and the ties, of the rows that are complete once j rows are computed
    abbrev pub corners_to : ℕ → List Corner
    corners_to j = centres_in_rows p exact (cells All) w h 0 (j - border_of p)

    abbrev pub ties_to : ℕ → ℕ
    ties_to j = ties_in_rows p exact (cells All) w h 0 (j - border_of p)

    pub bands-none : (b : Slices) → AddsCorners (corners_to 0) (ties_to 0) 0 b (Ok (record { count = 0; ties = 0 })) b
    bands-none b =
        adds_none (corners_to 0) (ties_to 0) 0 b
        (ap (λ (l : List Place). map (centred p.centroid_radius (cells All) w h)
        (map (start_at (cells All) (search_with p exact w h)) l)) none)
        (ap (sum_of (ties_at (cells All) (search_with p exact w h))) none) (omega arith)
      where
        empty : (border : ℕ) → block border (w - border) (max 0 border) (min (0 - border) (h - border)) ≡ []
        empty border = block-end border (w - border) (max 0 border) (min (0 - border) (h - border)) (omega arith)

        none : peaks_in_rows (cells All) (search_with p exact w h) 0 (0 - border_of p) ≡ []
        none = ap (keep (peak_in (cells All) (search_with p exact w h))) (empty (border_of p))

    module _ (j e held t : ℕ) (later : j ≤ e) (b₀ b : Slices)
        (a : AddsCorners (corners_to j) (ties_to j) 0 b₀ (Ok (record { count = held; ties = t })) b)
        (answer : Result Peaks Refusal) (b' : Slices)
        (d : AddsCorners (centres_in_rows p exact (cells All) w h (j - border_of p) (e - border_of p))
        (ties_in_rows p exact (cells All) w h (j - border_of p) (e - border_of p)) held b answer b') where
      pub bands-more : (q : Peaks) → answer ≡ Ok q
          → AddsCorners (corners_to e) (ties_to e) 0 b₀ (Ok (record { count = held + q.count; ties = t + q.ties })) b'
      bands-more q z =
          adds-to _ _ 0 b₀ (corners_to e) (ties_to e) (Ok (record { count = held + q.count; ties = t + q.ties })) b'
          (sym (centres-split p exact (cells All) w h 0 (j - border_of p) (e - border_of p) (omega arith) (earlier (border_of p))))
          (sym (ties-split p exact (cells All) w h 0 (j - border_of p) (e - border_of p) (omega arith) (earlier (border_of p))))
          (adds-more (corners_to j) (ties_to j) held t b₀ b a _ _ answer b' d q z)
        where
          earlier : (border : ℕ) → j - border ≤ e - border
          earlier border = omega arith

      pub bands-full : (k : Refusal) → answer ≡ Err k → e ≤ h → AddsCorners (corners_to h) (ties_to h) 0 b₀ answer b'
      bands-full k z l =
          adds-full (corners_to j) (ties_to j) held t b₀ b a _ _ answer b' d k z (corners_to h) (ties_to h)
          (omega (
            arith,
            ap length (centres-split p exact (cells All) w h 0 (j - border_of p) (e - border_of p) (omega arith)
                (monus j e (border_of p) later)),
            length-append (corners_to j) (centres_in_rows p exact (cells All) w h (j - border_of p) (e - border_of p)),
            ap length (centres-split p exact (cells All) w h 0 (e - border_of p) (h - border_of p) (omega arith)
                (monus e h (border_of p) l)),
            length-append (corners_to e) (centres_in_rows p exact (cells All) w h (e - border_of p) (h - border_of p)),
          ))
        where
          monus : (x y border : ℕ) → x ≤ y → x - border ≤ y - border
          monus x y border q = omega arith

    -- all rows
    module _ (wide : 0 < w) (high : 0 < h) (places : ℕ) (ready : FrameChecked p img w h places) where
      fine : Fine p All
      fine = fine-box p img w h ready.sound 0 0 w h

      peaks-all : peaks_in_rows (cells All) (search_with p exact w h) 0 (h - border_of p) ≡ peaks_in (cells All) (search_with p exact w h)
      unfolding peak_places
      peaks-all = ap (keep (peak_in (cells All) (search_with p exact w h))) (rows_all (border_of p))
        where
          rows_all : (border : ℕ) → block border (w - border) (max 0 border) (min (h - border) (h - border))
              ≡ block border (w - border) border (h - border)
          rows_all border = ap₂ (λ (c d : ℕ). block border (w - border) c d) (omega arith) (omega arith)

      sides : {A : Type 0} (f : ℕ → ℕ → A) → f w h ≡ f (map_width All) (map_height All)
      sides f = sym (ap₂ f (whole-cols img w h (ring_of p.ring) high) (whole-rows img w h (ring_of p.ring) wide))

      ties-all : ties_to h ≡ ties_on p (choice_of p exact) All
      ties-all =
          ap (sum_of (ties_at (cells All) (search_with p exact w h))) peaks-all ∙ sides (ties_with p exact (cells All))
          ∙ made-ties p All fine exact

      pub bands-all : (j : ℕ) → j ≤ h → h ≤ j → (b₀ : Slices) (answer : Result Peaks Refusal) (b : Slices)
          → AddsCorners (corners_to j) (ties_to j) 0 b₀ answer b
          → AddsCorners (corners_in p (choice_of p exact) All) (ties_on p (choice_of p exact) All) 0 b₀ answer b
      bands-all j k l b₀ answer b a =
          let e : j ≡ h = omega arith in
          adds-to _ _ 0 b₀ _ _ answer b
          (ap corners_to e
          ∙ ap (λ (s : List Place). map (centred p.centroid_radius (cells All) w h)
          (map (start_at (cells All) (search_with p exact w h)) s)) peaks-all
          ∙ sides (centres_in p exact (cells All)) ∙ made-corners p All fine exact)
          (ap ties_to e ∙ ties-all) a

      pub bands-tied : (e : ℕ) → e ≤ h → ties_to e ≤ 18270388224
      bands-tied e l =
          omega (
            arith,
            ties-split p exact (cells All) w h 0 (e - border_of p) (h - border_of p) (omega arith) (monus (border_of p)),
            ties-all,
            map-tied p exact All fine,
          )
        where
          monus : (border : ℕ) → e - border ≤ h - border
          monus border = omega arith
