-- The whole answer of the exported run, over words: built of the cluster's run and of its struct in words.
use Rattle.std.specs.Prelude.{ℕ, ◌+◌, ◌*◌, ◌≡◌, Bool, List, [], ◌∷◌, ◌++◌, eqb, leb, length, get_or, take, drop}
use Rattle.base.specs.Choice.{pick, both, all_below}
use Rattle.base.specs.Refusals.{STATE}
use Rattle.base.specs.Transaction.{LAST}
use Rattle.base.specs.declared.Sizes.{Sizes}
use Rattle.rules.specs.declared.State.{State}
use Rattle.rules.specs.Cluster.{Event}
use Rattle.rules.specs.Words.{tab}
use Rattle.octets.specs.Bytes.{under, BYTE}
use Rattle.octets.specs.Record.{RECORD, state_words, state_at, fits}
use Rattle.ring.specs.Queue.{RINGS}
use Rattle.site.specs.declared.Cluster.{Cluster}
use Rattle.site.specs.Site.{Site, site_of, cluster_of}
use Rattle.runs.specs.Runs.{events_of, played, tally, good_run}
use Rattle.cabinet.specs.Zab.{sizes}

-- ---- the struct in 369 words: n, room, depth, events met, events taken; seven records; the heads of 49 rings, and their counts

abbrev pub HELD : ℕ
HELD = 369

-- where the record of server i starts, and its words
abbrev pub record_place : ℕ → ℕ
record_place i = 5 + RECORD * i

abbrev pub record_words : List ℕ → ℕ → List ℕ
record_words w i = take RECORD (drop (record_place i) w)

unfoldable pub record_fits : List ℕ → ℕ → Bool
record_fits w i = fits (record_words w i)

-- a word of each ring, from word k on
abbrev pub ring_words : List ℕ → ℕ → List ℕ
ring_words w k = take RINGS (drop k w)

-- as many words, each within its field; how many events were met and taken is not looked at
unfoldable pub held_fits : List ℕ → Bool
held_fits w =
    both (eqb (length w) HELD)
    (both (leb (get_or w 0 0) BYTE)
    (both (leb (get_or w 1 0) LAST)
    (both (leb (get_or w 2 0) BYTE)
    (both (all_below 7 (record_fits w))
    (under BYTE (take 98 (drop 271 w)))))))

-- the struct that they stand for
unfoldable pub cluster_at : List ℕ → Cluster
cluster_at w = record {
  sizes = sizes (get_or w 0 0) (get_or w 1 0);
  depth = get_or w 2 0;
  servers = tab 7 (λ i. state_at (record_words w i));
  rings = record { heads = ring_words w 271; counts = ring_words w 320 };
}

abbrev pub five_of : Sizes → ℕ → ℕ → ℕ → List ℕ
five_of z depth met taken = z.n ∷ z.room.0 ∷ depth ∷ met ∷ taken ∷ []

unfoldable pub records_of : List State → List ℕ
records_of [] = []
records_of (s ∷ ss) = state_words s ++ records_of ss

-- and its words
unfoldable pub held_of : Cluster → ℕ → ℕ → List ℕ
held_of c met taken = five_of c.sizes c.depth met taken ++ (records_of c.servers ++ (c.rings.heads ++ c.rings.counts))

-- ---- all that the exported run leaves

pub record Finish : Type 0 where
  pub code : ℕ
  pub held : List ℕ
  pub hists : List ℕ
  pub cands : List ℕ
  pub queue : List ℕ
  pub box : List ℕ

-- a refusal: every word stands
abbrev pub halts : ℕ → List ℕ → List ℕ → List ℕ → List ℕ → List ℕ → Finish
halts r w h k q o = record { code = r; held = w; hists = h; cands = k; queue = q; box = o }

-- the cluster c with what stands in s: its sizes and its depth stay
abbrev pub housed : Cluster → Site → Cluster
housed c s = record { sizes = c.sizes; depth = c.depth; servers = s.servers; rings = s.rings }

-- the events es of the cluster c, where s is what it holds and is lent
unfoldable pub ran : Cluster → Site → List Event → Finish
ran c s es =
    let x = played c.sizes c.depth s es in
    record {
      code = 0;
      held = held_of (housed c x) (length es) (tally c.sizes c.depth (cluster_of c.sizes c.depth s) es);
      hists = x.hists;
      cands = x.cands;
      queue = x.queue;
      box = x.box;
    }

-- is the cluster c, with what it is lent, well formed, and are the words es whole events?
abbrev pub may_run : Cluster → List ℕ → List ℕ → List ℕ → List ℕ → List ℕ → Bool
may_run c h k q o es = good_run c.sizes c.depth (site_of c h k q o) es

-- THE EXPORTED RUN: STATE where a word of the struct is over its field or the cluster's run refuses, else what the cluster does
unfoldable pub run_of : List ℕ → List ℕ → List ℕ → List ℕ → List ℕ → List ℕ → ℕ → Finish
run_of w h k q o es budget = pick
    (both (held_fits w) (may_run (cluster_at w) h k q o es))
    (ran (cluster_at w) (site_of (cluster_at w) h k q o) (events_of (cluster_at w).sizes es budget))
    (halts STATE w h k q o)

-- the result r, with the words after it, is x
pub record Finishes (x : Finish) (r : ℕ) (w h k q o : List ℕ) : Type 0 where
  pub code : r ≡ x.code
  pub held : w ≡ x.held
  pub hists : h ≡ x.hists
  pub cands : k ≡ x.cands
  pub queue : q ≡ x.queue
  pub box : o ≡ x.box
