-- K1 to K10 of document 01: one theorem over one table, by computation.
use Prim.Native.Nat.{ℕ, ◌+◌, ◌-◌, ◌*◌}
use Prim.Native.Char.{code}
use Prim.Native.String.{String}
use mathlib.Core.Path.{◌≡◌, refl}
use mathlib.Core.Bool.{cond}
use mathlib.Core.List.{List, [], ◌∷◌, ◌++◌, map, flatten}
use lib.ListN.{replicate}
use lib.Dec.{leb}
use Rattle.site.specs.Numbers.{coordinator_phase, waiting_set, participant_phase}
use Rattle.joint.specs.State.{Run, fresh}
use Rattle.joint.specs.Run.{after, site_image}
use Rattle.joint.specs.Drill.{events_in, ascii, drill}
use Rattle.codec.specs.Open.{codec_opens}
use Rattle.site.specs.Open.{site_opens}
use Rattle.joint.proofs.Open.{joint_opens}

-- ---- hexadecimal text as bytes; what stands below '0' in ASCII only separates

abbrev digits : String → List ℕ
digits String.[] = []
digits (String.◌∷◌ c s) = cond (leb (code c) 47) (digits s) (cond (leb (code c) 57) (code c - 48) (code c - 55) ∷ digits s)

abbrev paired : List ℕ → List ℕ
paired [] = []
paired (a ∷ []) = []
paired (a ∷ b ∷ rest) = (16 * a + b) ∷ paired rest

abbrev pub hex : String → List ℕ
hex s = paired (digits s)

-- ---- the table

-- a list of events; the drill's output, its last nine lines apart: those of the sites 0 and 1, and the one that each other site has; after it, of
-- one transaction, the coordinator's phase and waiting set and participant 1's phase (phases counted from 0 in 01's order); and the image of
-- participant 1's log
pub record Case : Type 0 where
  pub input : String
  pub output : String
  pub totals : String
  pub others : String
  pub transaction : ℕ
  pub phases : List ℕ
  pub image_of_1 : String

pub cases : List Case
cases =
    -- K1: the drill's example
    record {
      input = "00 00 01 01 FF 00 / 01 00 00 00 FF 00 / 02 00 01 00 FF 00 / 02 00 01 01 FF 00 / 02 00 01 03 FF 00";
      output = "1 0 0 0 0\n2 0 1 1 1\n3 0 1 1 1\n4 0 1 1 1\n5 0 1 0 0\nHANDOVER 0 CC-------\n";
      totals = "2 1 2 0\n1 1 1 0\n";
      others = "0 0 0 0\n";
      transaction = 0;
      phases = 4 ∷ 0 ∷ 2 ∷ [];
      image_of_1 = "44 50 52 4C 01 01 0A 00 03 00 05 00 01";
    }
    -- K2: PC 00, and a last CommitAck
    ∷ record {
      input = "00 00 01 00 FF 00 / 01 00 00 00 FF 00 / 02 00 01 00 FF 00 / 02 00 01 01 FF 00 / 02 00 01 03 FF 00 / 02 00 01 05 FF 00";
      output = "1 0 0 0 0\n2 0 0 0 1\n3 0 1 1 1\n4 0 1 1 1\n5 0 1 1 1\n6 0 1 0 0\nHANDOVER 0 CC-------\n";
      totals = "1 1 1 0\n2 1 2 0\n";
      others = "0 0 0 0\n";
      transaction = 0;
      phases = 4 ∷ 0 ∷ 2 ∷ [];
      image_of_1 = "44 50 52 4C 01 02 0E 00 03 00 11 00 02 00 05 00 00 06 00";
    }
    -- K3: after K2 deliver Yes: an Abort is sent, and the box ignores it. (Event 7: before that no Abort can be delivered.)
    ∷ record {
      input =
          "00 00 01 00 FF 00 / 01 00 00 00 FF 00 / 02 00 01 00 FF 00 / 02 00 01 01 FF 00 / 02 00 01 03 FF 00 / 02 00 01 05 FF 00 / 02 00 01 04 FF 00 / 02 00 01 01 FF 00 / 02 00 01 04 FF 00";
      output = "1 0 0 0 0\n2 0 0 0 1\n3 0 1 1 1\n4 0 1 1 1\n5 0 1 1 1\n6 0 1 0 0\n7 7 0 0 0\n8 0 0 0 1\n9 0 0 0 0\nHANDOVER 0 CC-------\n";
      totals = "1 1 1 0\n2 1 2 0\n";
      others = "0 0 0 0\n";
      transaction = 0;
      phases = 4 ∷ 0 ∷ 2 ∷ [];
      image_of_1 = "44 50 52 4C 01 02 0E 00 03 00 11 00 02 00 05 00 00 06 00";
    }
    -- K4: K1's event 4 with cut 1, keep 0, then restart: hub enters abort
    ∷ record {
      input = "00 00 01 01 FF 00 / 01 00 00 00 FF 00 / 02 00 01 00 FF 00 / 02 00 01 01 01 00 / 07 00 00 00 FF 00";
      output = "1 0 0 0 0\n2 0 1 1 1\n3 0 1 1 1\n4 0 1 0 0\n5 0 0 0 1\nHANDOVER 0 A--------\n";
      totals = "1 1 1 0\n1 1 1 0\n";
      others = "0 0 0 0\n";
      transaction = 0;
      phases = 3 ∷ 1 ∷ 1 ∷ [];
      image_of_1 = "44 50 52 4C 01 01 0A 00 03 00 05 00 01";
    }
    -- K5: with keep 1: hub enters commit, sends nothing; the box's Yes brings Commit. (Event 6: before that no Commit can be delivered.)
    ∷ record {
      input =
          "00 00 01 01 FF 00 / 01 00 00 00 FF 00 / 02 00 01 00 FF 00 / 02 00 01 01 01 01 / 07 00 00 00 FF 00 / 02 00 01 03 FF 00 / 02 00 01 01 FF 00 / 02 00 01 03 FF 00";
      output = "1 0 0 0 0\n2 0 1 1 1\n3 0 1 1 1\n4 0 1 0 0\n5 0 0 0 0\n6 7 0 0 0\n7 0 0 0 1\n8 0 1 0 0\nHANDOVER 0 CC-------\n";
      totals = "1 1 1 0\n1 1 1 0\n";
      others = "0 0 0 0\n";
      transaction = 0;
      phases = 4 ∷ 0 ∷ 2 ∷ [];
      image_of_1 = "44 50 52 4C 01 01 0A 00 03 00 05 00 01";
    }
    -- K6: cut 5 there answers 9, cut 4 is accepted
    ∷ record {
      input = "00 00 01 01 FF 00 / 01 00 00 00 FF 00 / 02 00 01 00 FF 00 / 02 00 01 01 05 00 / 02 00 01 01 04 00";
      output = "1 0 0 0 0\n2 0 1 1 1\n3 0 1 1 1\n4 9 0 0 0\n5 0 1 1 1\nHANDOVER 0 C--------\n";
      totals = "2 1 2 0\n1 1 1 0\n";
      others = "0 0 0 0\n";
      transaction = 0;
      phases = 4 ∷ 0 ∷ 1 ∷ [];
      image_of_1 = "44 50 52 4C 01 01 0A 00 03 00 05 00 01";
    }
    -- K7: after K1 discard at box 1 answers 8; after force, 0
    ∷ record {
      input =
          "00 00 01 01 FF 00 / 01 00 00 00 FF 00 / 02 00 01 00 FF 00 / 02 00 01 01 FF 00 / 02 00 01 03 FF 00 / 05 00 01 00 FF 00 / 04 00 01 00 FF 00 / 05 00 01 00 FF 00";
      output = "1 0 0 0 0\n2 0 1 1 1\n3 0 1 1 1\n4 0 1 1 1\n5 0 1 0 0\n6 8 0 0 0\n7 0 0 1 0\n8 0 0 0 0\nHANDOVER 0 CC-------\n";
      totals = "2 1 2 0\n2 1 2 0\n";
      others = "0 0 0 0\n";
      transaction = 0;
      phases = 4 ∷ 0 ∷ 2 ∷ [];
      image_of_1 = "44 50 52 4C 01 01 0A 00 02 00 06 00";
    }
    -- K8: hub discards twice after K1, then 8
    ∷ record {
      input =
          "00 00 01 01 FF 00 / 01 00 00 00 FF 00 / 02 00 01 00 FF 00 / 02 00 01 01 FF 00 / 02 00 01 03 FF 00 / 05 00 00 00 FF 00 / 05 00 00 00 FF 00 / 05 00 00 00 FF 00";
      output = "1 0 0 0 0\n2 0 1 1 1\n3 0 1 1 1\n4 0 1 1 1\n5 0 1 0 0\n6 0 0 0 0\n7 0 0 0 0\n8 8 0 0 0\nHANDOVER 0 CC-------\n";
      totals = "2 1 2 0\n1 1 1 0\n";
      others = "0 0 0 0\n";
      transaction = 0;
      phases = 4 ∷ 0 ∷ 2 ∷ [];
      image_of_1 = "44 50 52 4C 01 01 0A 00 03 00 05 00 01";
    }
    -- K9: handover 7 and members FF open; handover 8 or members 00 answer 1
    ∷ record {
      input = "00 07 FF 00 FF 00 / 00 08 FF 00 FF 00 / 00 06 00 00 FF 00";
      output = "1 0 0 0 0\n2 1 0 0 0\n3 1 0 0 0\nHANDOVER 7 ---------\n";
      totals = "0 1 0 0\n0 1 0 0\n";
      others = "0 1 0 0\n";
      transaction = 7;
      phases = 0 ∷ 0 ∷ 0 ∷ [];
      image_of_1 = "44 50 52 4C 01 00";
    }
    -- K10: box 1's image after K1's event 3
    ∷ record {
      input = "00 00 01 01 FF 00 / 01 00 00 00 FF 00 / 02 00 01 00 FF 00";
      output = "1 0 0 0 0\n2 0 1 1 1\n3 0 1 1 1\nHANDOVER 0 ---------\n";
      totals = "1 1 1 0\n1 1 1 0\n";
      others = "0 0 0 0\n";
      transaction = 0;
      phases = 1 ∷ 1 ∷ 1 ∷ [];
      image_of_1 = "44 50 52 4C 01 01 0A 00 03 00 05 00 01";
    }
    ∷ []

-- ---- the theorem

phases_of : Run → ℕ → List ℕ
phases_of r t =
    let x = r.transaction t in
    coordinator_phase x.coordinator.phase ∷ waiting_set x.coordinator.phase ∷ participant_phase (x.participant 1) ∷ []

pub observed : Case → List (List ℕ)
observed c =
    let r = after fresh (events_in (hex c.input)) in
    drill (hex c.input) ∷ phases_of r c.transaction ∷ site_image r 1 ∷ []

pub expected : Case → List (List ℕ)
expected c =
    (ascii c.output ++ ascii c.totals ++ flatten (replicate 7 (ascii c.others))) ∷ c.phases ∷ hex c.image_of_1 ∷ []

pub cases_hold : map observed cases ≡ map expected cases
unfolding codec_opens site_opens joint_opens cases phases_of observed expected
cases_hold = refl
