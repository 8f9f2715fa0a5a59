-- The frame of a photograph from its promise, by the number of the upload; and the uploads from the definitions. Assumes nothing.
use Prim.Native.Nat.{ℕ, zero, suc, ◌+◌, ◌*◌}
use native.Mathlib.Decide.{dec_lt}
use native.Mathlib.Omega.{arith}
use mathlib.Core.Path.{◌≡◌, refl, sym, ap, ◌∙◌}
use mathlib.Core.List.{List, ◌∷◌, ◌++◌, append_assoc}
use lib.ListN.{length, take, drop, length-append, length-take, get_or-eq_default}
use lib.Seq.{get_or-take, get_or-drop, take_at, drop_at}
use Rattle.accuracy.specs.Accurate.{Bytes}
use Rattle.listing.specs.Text.{decimal}
use Rattle.frame_params.specs.declared.FrameParams.{FrameParams}
use Rattle.patch_corners.specs.OneMap.{Choice}
use Rattle.std.specs.Prelude.{Result, Ok, Err}
use Rattle.lists.specs.declared.refusal.Refusal.{Refusal}
use Rattle.lists.specs.Refusals.{refusal_with, number_of}
use Rattle.frame.specs.declared.Found.{Found}
use Rattle.frame.specs.Frame.{Buffers, FrameFound}
use Rattle.pgm.specs.Header.{bare, field_of, Field, behind_first, width_of, height_of, maxval_of, has_header, raster_at}
use Rattle.pgm.specs.Pgm.{conditions, refusal_of, pixels_in}
use Rattle.pgm.proofs.Judging.{accepts}
use Rattle.pgm.proofs.Behind.{same-raster, same_width, same-height, same-accepted, same-pixels}
use Rattle.pgm_frame.specs.PgmFrame.{PhotographFound}
use Rattle.pgm_frame.specs.PgmFrame as photograph
use Rattle.demands.specs.Photographs.{PhotographCall, OnPixels, PhotographIsFrame}
use Rattle.demands.specs.Photographs.{ReadAs, plain_header, PlainHeaderRead, with_behind, BehindUnread, uploads, UploadsRead}
use Rattle.demands.proofs.PlainHeader.{width_is, height_is, maxval-is, header_is}
use Rattle.demands.specs.FrameExact.{CallBy}

-- ---- by the number of the upload
module _ (choose : Choice) (p : FrameParams) (upload : List ℕ) (b b' : Buffers) (r : Result Found Refusal)
    (f : PhotographFound choose p upload b r b') where
  pub photograph-accepted : refusal_of upload ≡ 0 → FrameFound choose p (pixels_in upload) (width_of upload) (height_of upload) b r b'
  unfolding photograph.refusal_of
  photograph-accepted e =
      record {
        answer = f.answer ∙ rw e;
        number = f.number ∙ rw e;
        values = f.values ∙ rw e;
        left = f.left ∙ rw e;
      }

  pub photograph-refused : (refusal_of upload ≡ 0 → ⊥) → (r ≡ Err (refusal_with (refusal_of upload))) × (b' ≡ b)
  unfolding photograph.refusal_of
  photograph-refused h = go (refusal_of upload) refl
    where
      go : (n : ℕ) → refusal_of upload ≡ n → (r ≡ Err (refusal_with (refusal_of upload))) × (b' ≡ b)
      go zero e = absurd (h e)
      go (suc n) e = (f.answer ∙ rw e, f.left ∙ rw e)

  pub photograph-number : (refusal_of upload ≡ 0 → ⊥) → number_of r ≡ refusal_of upload
  unfolding photograph.refusal_of
  photograph-number h = go (refusal_of upload) refl
    where
      go : (n : ℕ) → refusal_of upload ≡ n → number_of r ≡ refusal_of upload
      go zero e = absurd (h e)
      go (suc n) e = f.number ∙ rw e

-- a part of bytes
part_bytes : (n k : ℕ) (s : List ℕ) → Bytes s → Bytes (take n (drop k s))
part_bytes n k s all i =
    elim (dec_lt i n) [
      | yes l ↦ rw (get_or-take n (drop k s) i 0 l, get_or-drop k s i 0) (all (k + i))
      | no g ↦ rw (get_or-eq_default (take n (drop k s)) 0 {n = i} (omega (arith, length-take n (drop k s)))) (omega arith)
    ]

finished : (choose : FrameParams → Choice) (c : PhotographCall choose) → OnPixels c
unfolding pixels_in
finished choose c = go (refusal_of c.upload) refl
  where
    go : (n : ℕ) → refusal_of c.upload ≡ n → OnPixels c
    go zero e =
        record {
          accepted = e;
          pixels = rw e (part_bytes (width_of c.upload * height_of c.upload) (raster_at c.upload) c.upload c.bytes);
          promise = photograph-accepted (choose c.parameters) c.parameters c.upload c.before c.after
              (Ok (record { corners = c.count; ties = c.ties })) c.promise e;
        }
    go (suc n) e =
        let some : refusal_of c.upload ≡ 0 → ⊥ = λ z. omega arith in
        let refused = photograph-refused (choose c.parameters) c.parameters c.upload c.before c.after
        (Ok (record { corners = c.count; ties = c.ties })) c.promise some in
        absurd (let same = refused.0 in let no : ⊥ = grind arith in no)

pub photograph_is_frame : PhotographIsFrame
photograph_is_frame = record { finished = finished; accepted = photograph-accepted; refused = photograph-refused }

-- so every statement on a finished frame is one on a photograph
pub frame-call : {choose : FrameParams → Choice} → PhotographCall choose → CallBy choose
frame-call {choose} c = let f = finished choose c in record {
  parameters = c.parameters;
  img = pixels_in c.upload;
  w = width_of c.upload;
  h = height_of c.upload;
  bytes = f.pixels;
  before = c.before;
  after = c.after;
  count = c.count;
  ties = c.ties;
  promise = f.promise;
}

-- ---- what is read of an upload that is accepted
read_as : (upload : List ℕ) (at w h : ℕ) (pixels : List ℕ) → refusal_of upload ≡ 0 → raster_at upload ≡ at → width_of upload ≡ w
    → height_of upload ≡ h
    → pixels_in upload ≡ pixels → ReadAs upload at w h pixels
read_as upload at w h pixels none place width height part =
    record { image = λ r f. f.answer ∙ rw (none, place, width, height); part = part }

-- two calls on frames that are the same
frames-same : (choose : Choice) (p : FrameParams) (i i' : List ℕ) (w w' h h' : ℕ) (b b₁ b₂ : Buffers) (r₁ r₂ : Result Found Refusal)
    → i' ≡ i → w' ≡ w → h' ≡ h
    → FrameFound choose p i w h b r₁ b₁ → FrameFound choose p i' w' h' b r₂ b₂ → (r₂ ≡ r₁) × (b₂ ≡ b₁)
frames-same choose p i i' w w' h h' b b₁ b₂ r₁ r₂ pixels wide high f g =
    (g.answer ∙ rw (pixels, wide, high) (sym f.answer), g.left ∙ rw (pixels, wide, high) (sym f.left))

pub behind_unread : BehindUnread
behind_unread = record {
  reader = λ upload none behind.
      read_as (with_behind upload behind) (raster_at upload) (width_of upload) (height_of upload) (pixels_in upload)
      (same-accepted upload none behind) (same-raster upload none behind) (same_width upload none behind) (same-height upload none behind)
      (same-pixels upload none behind);
  frame = λ choose p upload none behind b b₁ b₂ r₁ r₂ f g.
      frames-same choose p (pixels_in upload) (pixels_in (with_behind upload behind)) (width_of upload)
      (width_of (with_behind upload behind)) (height_of upload)
      (height_of (with_behind upload behind)) b b₁ b₂ r₁ r₂ (same-pixels upload none behind) (same_width upload none behind)
      (same-height upload none behind)
      (photograph-accepted choose p upload b b₁ r₁ f none)
      (photograph-accepted choose p (with_behind upload behind) b b₂ r₂ g (same-accepted upload none behind));
}

-- the plain header with what follows it, as one list, and where that begins
header-as : (w h : ℕ) (t : List ℕ)
    → plain_header w h ++ t ≡ 80 ∷ 53 ∷ 10 ∷ (decimal w ++ (32 ∷ (decimal h ++ (10 ∷ 50 ∷ 53 ∷ 53 ∷ 10 ∷ t))))
header-as w h t = simp append_assoc

raster-is : (w h : ℕ) (t : List ℕ) → raster_at (plain_header w h ++ t) ≡ length (plain_header w h)
unfolding bare
raster-is w h t =
    ap raster_at (header-as w h t)
    ∙ ap (λ (f : Field). behind_first f.rest) (maxval-is w h t)
    ∙ simp length-append (omega arith)

pub plain_header_read : PlainHeaderRead
unfolding pixels_in
plain_header_read w h pixels behind narrow low many =
    let t = pixels ++ behind in
    let u = plain_header w h ++ t in
    let is = header-as w h t in
    let at : raster_at u ≡ length (plain_header w h) = raster-is w h t in
    let left : drop (raster_at u) u ≡ t = drop_at (plain_header w h) t (raster_at u) (sym at) in
    let width : width_of u ≡ w = ap (λ (l : List ℕ). width_of l) is ∙ ap (λ (f : Field). f.number) (width_is w h t) in
    let height : height_of u ≡ h = ap (λ (l : List ℕ). height_of l) is ∙ ap (λ (f : Field). f.number) (height_is w h t) in
    let none : refusal_of u ≡ 0 = accepts u (record {
      header = ap (λ (l : List ℕ). has_header l) is ∙ header_is w h t;
      narrow = rw width narrow;
      low = rw height low;
      enough = rw (left, width, height) (omega (arith, many, length-append pixels behind));
      full = ap (λ (l : List ℕ). maxval_of l) is ∙ ap (λ (f : Field). f.number) (maxval-is w h t);
    }) in
    read_as u (length (plain_header w h)) w h pixels none at width height
    (rw (none, left, width, height) (take_at pixels behind (w * h) many))

-- ---- the table
pub uploads_read : UploadsRead
unfolding uploads bare field_of conditions refusal_of pixels_in
uploads_read = refl
