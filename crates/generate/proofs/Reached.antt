-- The states that bytes reach from a fresh one: their counters, their checksum, their length, their variant, and that none is refused.
-- Assumes nothing.
use mathlib.Core.Path.{◌≡◌, refl, ◌∙◌, ap, sym}
use mathlib.Core.Bool.{true}
use mathlib.Core.List.{List, [], ◌∷◌, ◌++◌}
use Prim.Native.Nat.{ℕ, ◌+◌, ◌-◌, ◌^◌, ◌≤◌, ◌<◌, min}
use native.Mathlib.Omega.{arith}
use native.Mathlib.Decide.{dec_lt}
use lib.ListN.{length, get_or, take, drop, length-take}
use lib.Seq.{take_all}
use borrow.Author.Tests.{lt-ltb}
use Rattle.std.specs.Prelude.{None, Some, Ok}
use Rattle.params.specs.Variants.{known}
use Rattle.pearson.proofs.Values.{bucket_lt}
use Rattle.counting.specs.Count.{checked}
use Rattle.generate.specs.declared.State.{State}
use Rattle.generate.specs.Feed.{fresh, filled, slid, step, feed}
use Rattle.generate.specs.Answer.{updated, total, processed}
use Rattle.generate.specs.Theorems.{Six, SixExact, Taken, ReachedUnmarked, ShortUnused, FirstBytesOnly, FullStays}
use Rattle.generate.proofs.Step.{by_step, cut, cut_at, past_the_stop, feed_keeps}
use Rattle.generate.proofs.Marks.{Fine, fine_unmarked, unmarked_fine}
use Rattle.generate.proofs.Counters.{feed_sixfold, fresh_sixfold}

-- n bytes have led from s to t: t has no mark, its variant is that of s, and its processed length is n more, up to 2^32
pub record Onward (n : ℕ) (s t : State) : Type 0 where
  pub fine : Fine t.length t.tail_len
  pub same : t.variant ≡ s.variant
  pub more : total t ≡ min (2 ^ 32) (total s + n)

-- one byte leads on from any state without a mark
step_on : (s : State) (b : ℕ) → Fine s.length s.tail_len → Onward 1 s (step s b)
unfolding filled slid
step_on s b k =
    by_step s b (Onward 1 s)
    (λ h.
    let e = k.empty h in
    record { fine = record { few = omega arith; stops = k.stops; empty = λ l. e }; same = refl; more = omega arith })
    (λ h l.
    let f : Fine (s.length + 1) s.tail_len = record { few = k.few; stops = omega arith; empty = λ q. absurd (omega arith) } in
    record { fine = f; same = refl; more = omega (arith, k.few) })
    (λ h l. record { fine = k; same = refl; more = omega (arith, k.few, k.stops) })

-- so do any bytes
pub feed_on : (bs : List ℕ) (s : State) → Fine s.length s.tail_len → Onward (length bs) s (feed bs s)
unfolding feed
feed_on [] s k = record { fine = k; same = refl; more = omega (arith, k.few, k.stops) }
feed_on (b ∷ bs) s k =
    let n = step_on s b k in
    let r = feed_on bs (step s b) n.fine in
    record { fine = r.fine; same = r.same ∙ n.same; more = omega (arith, n.more, r.more) }

-- a fresh state has no mark
pub fresh_fine : (v : ℕ) → Fine (fresh v).length (fresh v).tail_len
unfolding fresh
fresh_fine v = record { few = omega arith; stops = omega arith; empty = λ h. refl }

-- a checksum that is a byte stays one
step_checksum : (s : State) (b : ℕ) → s.checksum < 256 → (step s b).checksum < 256
unfolding filled slid checked
step_checksum s b k =
    by_step s b (λ (t : State). t.checksum < 256) (λ h. k) (λ h l. bucket_lt s.variant 0 b _ s.checksum) (λ h l. k)

-- without a mark, a state whose processed length is 2^32 is changed by no bytes
fine_stays : (bs : List ℕ) (s : State) → Fine s.length s.tail_len → total s ≡ 2 ^ 32 → feed bs s ≡ s
fine_stays bs s k e = past_the_stop bs s (omega (arith, k.stops)) (omega (arith, k.few))

-- the same, where the test finds no mark
pub full_stays : FullStays
full_stays bs s m e = fine_stays bs s (unmarked_fine s.length s.tail_len m) e

-- the counters sum, modulo 2^32, to six times the length field
pub six : Six
six v bs = (feed_sixfold bs (fresh v) (fresh_sixfold v)).rolled

-- exactly, where that is below 2^32
pub six_exact : SixExact
six_exact v bs = (feed_sixfold bs (fresh v) (fresh_sixfold v)).exact

module _ (v : ℕ) (bs : List ℕ) where
  -- there are 256 counters
  pub counters_256 : length (feed bs (fresh v)).counters ≡ 256
  counters_256 = (feed_sixfold bs (fresh v) (fresh_sixfold v)).wide

  -- each counter is below 2^32
  pub counters_small : (i : ℕ) → get_or (feed bs (fresh v)).counters i 0 < 2 ^ 32
  counters_small = (feed_sixfold bs (fresh v) (fresh_sixfold v)).small

  -- the checksum is a byte
  pub checksum_small : (feed bs (fresh v)).checksum < 256
  unfolding fresh
  checksum_small = feed_keeps (λ (s : State). s.checksum < 256) step_checksum bs (fresh v) (omega arith)

  -- bytes lead on from a fresh state
  reached : Onward (length bs) (fresh v) (feed bs (fresh v))
  reached = feed_on bs (fresh v) (fresh_fine v)

  -- the variant stays
  pub variant_stays : (feed bs (fresh v)).variant ≡ v
  unfolding fresh
  variant_stays = reached.same

-- no mark is reached
pub reached_unmarked : ReachedUnmarked
reached_unmarked v bs = fine_unmarked _ _ (reached v bs).fine

-- the processed length is the number of bytes, up to 2^32
pub taken : Taken
unfolding fresh
taken v bs = omega (arith, (reached v bs).more)

-- the length field is at most four less than the number of bytes
pub four_less : (v : ℕ) (bs : List ℕ) → (feed bs (fresh v)).length ≤ length bs - 4
four_less v bs = by (dec_lt (feed bs (fresh v)).tail_len 4)
  where
    by : Dec ((feed bs (fresh v)).tail_len < 4) → (feed bs (fresh v)).length ≤ length bs - 4
    by (yes h) = omega (arith, (reached v bs).fine.empty h)
    by (no h) = omega (arith, taken v bs)

-- a further update of a state that was reached is never refused, and leads on
pub reached_updated : (v : ℕ) (bs xs : List ℕ) → known v ≡ true
    → updated (feed bs (fresh v)) xs ≡ record { answer = Ok (tt {0}); state = feed (bs ++ xs) (fresh v) }
unfolding updated
reached_updated v bs xs e = rw (ap known (variant_stays v bs) ∙ e, reached_unmarked v bs, cut bs xs (fresh v))

-- in the short variant the counters 49 to 255 stay 0
pub short_unused : ShortUnused
short_unused bs = (feed_sixfold bs (fresh 48) (fresh_sixfold 48)).unused (variant_stays 48 bs)

-- bytes after the first 2^32 change nothing
pub first_bytes_only : FirstBytesOnly
first_bytes_only v bs = by (dec_lt (2 ^ 32) (length bs))
  where
    by : Dec (2 ^ 32 < length bs) → feed bs (fresh v) ≡ feed (take (2 ^ 32) bs) (fresh v)
    by (yes h) =
        cut_at (2 ^ 32) bs (fresh v)
        ∙ fine_stays (drop (2 ^ 32) bs) (feed (take (2 ^ 32) bs) (fresh v)) (reached v (take (2 ^ 32) bs)).fine
        (omega (arith, taken v (take (2 ^ 32) bs), length-take (2 ^ 32) bs))
    by (no h) = ap (λ (xs : List ℕ). feed xs (fresh v)) (sym (take_all (2 ^ 32) bs (omega arith)))

module _ (v : ℕ) (bs : List ℕ) (e : known v ≡ true) where
  -- `processed_len` answers the number of bytes where that is below 2^32
  pub processed_below : length bs < 2 ^ 32 → processed (feed bs (fresh v)) ≡ Ok (Some (length bs))
  unfolding processed
  processed_below h =
      let t : total (feed bs (fresh v)) ≡ length bs = omega (arith, taken v bs) in
      rw (ap known (variant_stays v bs) ∙ e, reached_unmarked v bs, t, lt-ltb (length bs) (2 ^ 32) h)

  -- and that there is none from there on
  pub processed_beyond : 2 ^ 32 ≤ length bs → processed (feed bs (fresh v)) ≡ Ok None
  unfolding processed
  processed_beyond h =
      let t : total (feed bs (fresh v)) ≡ 2 ^ 32 = omega (arith, taken v bs) in
      rw (ap known (variant_stays v bs) ∙ e, reached_unmarked v bs, t)
