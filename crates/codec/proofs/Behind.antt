-- One record behind the newest one of its transaction, as the program tests it. Assumes nothing.
use mathlib.Core.Path.{◌≡◌, refl, ◌∙◌}
use mathlib.Core.Bool.{Bool, true, false, ◌&&◌, and-true}
use Prim.Native.Nat.{ℕ}
use borrow.Author.Tests.{eqb-true, ne_eqb}
use lib.Dec.{eqb}
use Rattle.codec.specs.Lists.{every}
use Rattle.codec.specs.Sets.{both, part}
use Rattle.codec.specs.Records.{lengths, length_of, members_in, presume_commit_in, awaits_acks, within_init, agrees}
use Rattle.codec.specs.Answers.{record_in}
use Rattle.codec.specs.Inside.{next_kinds, may_be_next, may_follow}
use Rattle.codec.specs.declared.record.Record.{Record}

not_both : (j m k n : ℕ) → (j ≡ m → k ≡ n → ⊥) → (eqb j m && eqb k n) ≡ false
not_both j m k n h = by (eqb j m) refl
  where
    by : (b : Bool) → eqb j m ≡ b → (b && eqb k n) ≡ false
    by true e = ne_eqb k n (h (eqb-true j m e))
    by false e = refl

module _ (y x : Record) where
  -- a record 2 behind a record 1: their masks are asked for
  pub commit_behind_init : y.kind ≡ 1 → x.kind ≡ 2 → may_follow (record_in y) (record_in x) ≡ (part x.first y.first && eqb x.second (both y.second x.first))
  unfolding may_follow agrees within_init members_in presume_commit_in record_in length_of lengths every next_kinds
  commit_behind_init e f = rw (e, f) (and-true _ ∙ and-true _)

  -- a record 3 behind a record 2: a PrA member is asked for
  pub end_behind_commit : y.kind ≡ 2 → x.kind ≡ 3 → may_follow (record_in y) (record_in x) ≡ awaits_acks (record_in y)
  unfolding may_follow agrees record_in every next_kinds
  end_behind_commit e f = rw (e, f) (and-true _)

  -- any other: the table is asked
  pub follows_is : (y.kind ≡ 1 → x.kind ≡ 2 → ⊥) → (y.kind ≡ 2 → x.kind ≡ 3 → ⊥) → may_be_next y.kind x.kind ≡ may_follow (record_in y) (record_in x)
  unfolding may_follow may_be_next agrees record_in every
  follows_is a b = rw (not_both y.kind 1 x.kind 2 a, not_both y.kind 2 x.kind 3 b)
