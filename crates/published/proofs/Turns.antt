-- Each turn of the published loop settles a corner among the kept ones and keeps the grid's lists, so that the loop merges. Assumes
-- nothing.
use mathlib.Core.Path.{◌≡◌, refl, sym, ap, ap₂, ◌∙◌}
use mathlib.Core.Logic.{⊎_elim}
use mathlib.Core.Bool.{Bool, true, false, cond, ◌&&◌}
use mathlib.Core.List.{List, [], ◌∷◌}
use Prim.Native.Nat.{ℕ, ◌+◌, ◌*◌, ◌%◌, ◌^◌, ◌≤◌, ◌<◌}
use native.Mathlib.Nat.{mod-eq_of_lt, le_trans}
use native.Mathlib.Omega.{arith}
use lib.Dec.{eqb, lit≤}
use lib.ListN.{length, set}
use lib.Seq.{set-get_or}
use lib.Ieee.{lt}
use borrow.Author.Tests.{eqb-true, eqb-false}
use Rattle.lists.specs.Places.{All}
use Rattle.lists.proofs.Tests.{and_parts}
use Rattle.corner_list.specs.declared.Corner.{Corner}
use Rattle.merge_grid.specs.declared.Grid.{Grid}
use Rattle.merge_grid.specs.Grid.{position_of, near, adjacent_cells, joins}
use Rattle.merge_settle.specs.Settle.{stronger, settle, merged}
use Rattle.merge_settle.proofs.Settle.{settle-none, settle-some, settle-one}
use Rattle.published.specs.MergeRs.{GridRs, StateRs, width_rs, index_rs, column_rs, row_rs, nowhere, out_at}
use Rattle.published.specs.MergeRs.{scanned_rs, close_rs, best_rs, no_hit, push_rs, moved_rs, replace_rs, turn_rs, loop_rs}
use Rattle.published.proofs.Indices.{In, Best, best-is}
use Rattle.published.proofs.Grid.{Holds, push-holds, same-holds, moved_holds}
use Rattle.published.proofs.Scan.{Placed, near-scanned, scanned-near}

-- ---- one turn
module _ (g : GridRs) (G : Grid) (square : g.r2 ≡ G.square) where
  abbrev Stands : StateRs → Type 0
  Stands s = Holds (index_rs g) (Placed g G) s.out s.grid

  close-is : (c o : Corner) → close_rs g.r2 c o ≡ near G.square (position_of c) (position_of o)
  unfolding near
  close-is c o = rw square

  module _ (s : StateRs) (h : Stands s) (c : Corner) (at : Placed g G c) (few : length s.out < no_hit) where
    abbrev close : ℕ → Bool
    close i = close_rs g.r2 c (out_at s.out i)

    abbrev hit : ℕ
    hit = best_rs close no_hit (scanned_rs g s.grid c)

    best : Best close no_hit (scanned_rs g s.grid c) hit
    best = best-is close no_hit (scanned_rs g s.grid c)

    -- none that c joins stands before the hit
    before : (i : ℕ) → i < length s.out → joins G c (out_at s.out i) ≡ true → hit ≤ i
    before i l e =
        let p = and_parts (near G.square (position_of c) (position_of (out_at s.out i)))
        (adjacent_cells G (position_of c) (position_of (out_at s.out i))) e in
        best.before i (near-scanned g G s.out s.grid h c at i l p.1) (close-is c (out_at s.out i) ∙ p.0)

    -- and a hit is one that it joins
    found : (hit ≡ no_hit → ⊥) → (hit < length s.out) × (joins G c (out_at s.out hit) ≡ true)
    found n = ⊎_elim (λ e. absurd (n e)) (λ k. joined k.0 k.1) best.found
      where
        joined : In hit (scanned_rs g s.grid c) → close hit ≡ true → (hit < length s.out) × (joins G c (out_at s.out hit) ≡ true)
        joined k e =
            let r = scanned-near g G s.out s.grid h c at hit k in
            (r.0, rw (sym (close-is c (out_at s.out hit)) ∙ e, r.1))

    record Turned (t : StateRs) : Type 0 where
      out-is : t.out ≡ settle (joins G) s.out c
      stands : Stands t

    -- no hit
    push-turned : hit ≡ no_hit → Turned (push_rs g c s)
    push-turned e =
        let new : length s.out % 2 ^ 32 ≡ length s.out = mod-eq_of_lt (le_trans few (lit≤ tt)) in
        rw new
        (record {
          out-is = sym (settle-none (joins G) c nowhere s.out (λ i l j. let no : ⊥ = omega (arith, before i l j) in no));
          stands = push-holds (index_rs g) (Placed g G) s.out s.grid h c at;
        })

    -- a hit: c is settled there
    module _ (n : hit ≡ no_hit → ⊥) where
      at-hit : settle (joins G) s.out c ≡ set s.out hit (stronger c (out_at s.out hit))
      at-hit =
          let f = found n in
          settle-some (joins G) c nowhere s.out hit f.0
          (λ m l j. let no : ⊥ = omega (arith, before m (omega (arith, f.0)) j) in no) f.1

      cell_same : (eqb (column_rs g (out_at s.out hit)) (column_rs g c) && eqb (row_rs g (out_at s.out hit)) (row_rs g c)) ≡ true
          → index_rs g (out_at s.out hit) ≡ index_rs g c
      cell_same e =
          let p = and_parts (eqb (column_rs g (out_at s.out hit)) (column_rs g c)) (eqb (row_rs g (out_at s.out hit)) (row_rs g c)) e in
          ap₂ (λ (y x : ℕ). y * width_rs g + x) (eqb-true _ _ p.1) (eqb-true _ _ p.0)

      replace-turned : lt (out_at s.out hit).strength c.strength ≡ true → Turned (replace_rs g c hit s)
      replace-turned e = record {
        out-is = sym (at-hit ∙ ap (λ (b : Bool). set s.out hit (cond b c (out_at s.out hit))) e);
        stands = go (eqb (column_rs g (out_at s.out hit)) (column_rs g c) && eqb (row_rs g (out_at s.out hit)) (row_rs g c)) refl;
      }
        where
          go : (b : Bool) → (eqb (column_rs g (out_at s.out hit)) (column_rs g c) && eqb (row_rs g (out_at s.out hit)) (row_rs g c)) ≡ b
              → Holds (index_rs g) (Placed g G) (set s.out hit c)
              (cond b s.grid (moved_rs hit (index_rs g (out_at s.out hit)) (index_rs g c) s.grid))
          go true q = same-holds (index_rs g) (Placed g G) s.out s.grid h c at hit (found n).0 (cell_same q)
          go false q = moved_holds (index_rs g) (Placed g G) s.out s.grid h c at hit (found n).0

      drop-turned : lt (out_at s.out hit).strength c.strength ≡ false → Turned s
      drop-turned e = record {
        out-is = sym (at-hit ∙ ap (λ (b : Bool). set s.out hit (cond b c (out_at s.out hit))) e ∙ set-get_or s.out hit nowhere);
        stands = h;
      }

    turned : Turned (turn_rs g c s)
    unfolding turn_rs
    turned = go (eqb hit no_hit) (lt (out_at s.out hit).strength c.strength) refl refl
      where
        go : (p q : Bool) → eqb hit no_hit ≡ p → lt (out_at s.out hit).strength c.strength ≡ q
            → Turned (cond p (push_rs g c s) (cond q (replace_rs g c hit s) s))
        go true q e f = push-turned (eqb-true hit no_hit e)
        go false true e f = replace-turned (eqb-false hit no_hit e) f
        go false false e f = drop-turned (eqb-false hit no_hit e) f

  -- ---- all turns
  pub loop-is : (s : StateRs) (cs : List Corner) → Stands s → All (Placed g G) cs → length s.out + length cs ≤ no_hit
      → (loop_rs g s cs).out ≡ merged (joins G) s.out cs
  unfolding loop_rs
  loop-is s [] h a l = refl
  loop-is s (c ∷ cs) h a l =
      let t = turned s h c a.0 (omega arith) in
      loop-is (turn_rs g c s) cs t.stands a.1 (rw t.out-is (omega (arith, settle-one (joins G) c s.out)))
      ∙ ap (λ (kept : List Corner). merged (joins G) kept cs) t.out-is
