-- The unforced records that survive close up in an array, behind the stable ones: one pass, each record put where the next survivor stands.
use Prim.Native.Nat.{ℕ, suc, ◌+◌, ◌-◌, ◌/◌, ◌%◌, ◌^◌, ◌≤◌, ◌<◌}
use mathlib.Core.Path.{◌≡◌, refl, sym, ap, ap₂, ◌∙◌}
use mathlib.Core.Bool.{Bool, true, false, cond}
use mathlib.Core.List.{List, ◌∷◌, ◌++◌, map, append_assoc, append-nil}
use native.Mathlib.Omega.{arith}
use borrow.Author.Tests.{eqb-true, eqb-false}
use lib.ListN.{length, take, drop, get_or, set, length-map, length-set, get_or-map}
use lib.Pow.{shr-shr}
use lib.Seq.{take-add, take-suc-set, take-set-le, drop-cons, drop-set-lt}
use Rattle.codec.specs.Records.{LogRecord}
use Rattle.codec.specs.Answers.{record_in, no_record}
use Rattle.codec.specs.declared.record.Record.{Record}
use Rattle.joint.specs.State.{survivors, stopped}
use Rattle.joint.specs.Answers.{site_from}
use Rattle.joint.specs.Inside.{stable_of, count_of}
use Rattle.joint.specs.declared.sites.Site.{Site}
use Rattle.joint.proofs.Base.Survivors.{keeps_first, survivors_none}
use Rattle.joint.proofs.Engine.Sites.{map-set, site_path, stable-counted, stable-taken, log-taken}
use Rattle.joint.proofs.Engine.Trims.{split_same}

-- ---- one pass

-- The first `to` of now are the stable records and those that have survived so far; of the rest, up to `count`, those survive that the mask names: all in
-- all they are the goal
pub record Closed {A : Type 0} (goal now : List A) (count to i mask : ℕ) : Type 0 where
  pub order : to ≤ i
  pub end : i ≤ count
  pub few : count ≤ length now
  pub meets : take to now ++ survivors mask (take (count - i) (drop i now)) ≡ goal

module _ {A : Type 0} (goal now : List A) (count to i mask : ℕ) (d : A) (more : i < count) (h : Closed goal now count to i mask) where
  abbrev x : A
  x = get_or now i d

  abbrev rest : List A
  rest = take (count - suc i) (drop (suc i) now)

  head : take (count - i) (drop i now) ≡ x ∷ rest
  head =
      let e : count - i ≡ suc (count - suc i) = omega arith in
      rw (e, drop-cons now i d (omega (arith, h.few))) refl

  -- the record at i is put at `to`
  closes-up : take (to + mask % 2) (set now to x) ++ survivors (mask / 2) rest ≡ take to now ++ survivors mask (x ∷ rest)
  unfolding survivors
  closes-up = go (keeps_first mask) refl
    where
      go : (b : Bool) → keeps_first mask ≡ b
          → take (to + mask % 2) (set now to x) ++ survivors (mask / 2) rest ≡ take to now ++ cond b (x ∷ survivors (mask / 2) rest) (survivors (mask / 2) rest)
      go true q =
          let e : to + mask % 2 ≡ suc to = omega (arith, eqb-true (mask % 2) 1 q) in
          rw (e, take-suc-set now to x (omega (arith, h.order, h.few)), append_assoc) refl
      go false q =
          let e : to + mask % 2 ≡ to = omega (arith, eqb-false (mask % 2) 1 q) in
          rw (e, take-set-le to now to x (omega arith)) refl

  pub closes_next : (n : ℕ) → n ≡ suc i → Closed goal (set now to x) count (to + mask % 2) n (mask / 2)
  closes_next n e =
      let same : drop (suc i) (set now to x) ≡ drop (suc i) now = drop-set-lt (suc i) now to x (omega (arith, h.order)) in
      record {
        order = omega (arith, h.order);
        end = omega (arith, h.end);
        few = simp length-set h.few;
        meets = rw (e, same) (closes-up ∙ ap (λ (l : List A). take to now ++ survivors mask l) (sym head) ∙ h.meets);
      }

-- ---- the records of a site

-- the first `stable`, and of the `unforced` behind them those that survive
abbrev pub kept : ℕ → ℕ → ℕ → List LogRecord → List LogRecord
kept keep stable unforced l = take stable l ++ survivors keep (take unforced (drop stable l))

-- the pass has come to place k of the unforced records
abbrev pub Passing : List LogRecord → List Record → ℕ → ℕ → ℕ → ℕ → ℕ → Type 0
Passing goal now keep stable unforced to k = Closed goal (map record_in now) (stable + unforced) to (stable + k) (keep / 2 ^ k)

pub passing_starts : (keep stable unforced : ℕ) (rs : List Record) → stable + unforced ≤ length rs
    → Passing (kept keep stable unforced (map record_in rs)) rs keep stable unforced stable 0
passing_starts keep stable unforced rs few =
    let z : stable + 0 ≡ stable = omega arith in
    let n : stable + unforced - stable ≡ unforced = omega arith in
    let w : keep / 1 ≡ keep = omega arith in
    record { order = omega arith; end = omega arith; few = simp length-map few; meets = rw (z, n, w) refl }

pub passing_next : (goal : List LogRecord) (now : List Record) (keep stable unforced to k n : ℕ) → k < unforced → n ≡ suc k
    → Passing goal now keep stable unforced to k
    → Passing goal (set now to (get_or now (stable + k) no_record)) keep stable unforced (to + keep / 2 ^ k % 2) n
passing_next goal now keep stable unforced to k n more e h =
    let q : n ≡ k + 1 = omega arith in
    let next : keep / 2 ^ n ≡ keep / 2 ^ k / 2 = rw q (sym (shr-shr keep k 1)) in
    rw (next, map-set, ← get_or-map record_in now (stable + k) no_record)
    (closes_next goal (map record_in now) (stable + unforced) to (stable + k) (keep / 2 ^ k) (record_in no_record) (omega arith) h (stable + n) (omega arith))

module _ (x : Site) (rs : List Record) (keep : ℕ) (all : length rs ≡ 24) where
  unforced-taken : take (count_of x - stable_of x) (drop (stable_of x) (map record_in rs)) ≡ (site_from x rs).unforced
  unforced-taken =
      let e : stable_of x + (count_of x - stable_of x) ≡ count_of x = omega arith in
      let both : take (stable_of x) (map record_in rs) ++ take (count_of x - stable_of x) (drop (stable_of x) (map record_in rs)) ≡ (site_from x rs).stable ++ (site_from x rs).unforced =
      rw (← take-add (stable_of x) (count_of x - stable_of x) (map record_in rs), e) (log-taken x rs all) in
      (split_same {a = take (stable_of x) (map record_in rs)} {c = (site_from x rs).stable} (stable_of x) both (ap length (stable-taken x rs all) ∙ stable-counted x rs all) (stable-counted x rs all)).1

  -- at the end: those before `to` are the log
  pub passing_ends : (now : List Record) (stable unforced to k : ℕ) → stable ≡ stable_of x → unforced ≡ count_of x - stable_of x → k ≡ unforced
      → Passing (kept keep stable unforced (map record_in rs)) now keep stable unforced to k
      → site_from (record { up = false; stable = to; unforced = 0 }) now ≡ stopped keep (site_from x rs)
  unfolding site_from stopped
  passing_ends now stable unforced to k s u e h =
      let z : stable + unforced - (stable + k) ≡ 0 = omega arith in
      site_path
      (sym (append-nil (take to (map record_in now)))
      ∙ rw (z, survivors_none (keep / 2 ^ k)) at h.meets
      ∙ rw (s, u) (ap₂ (λ (a b : List LogRecord). a ++ survivors keep b) (unfold site_from in stable-taken x rs all) (unfold site_from in unforced-taken)))
      refl
