-- A server's part of the lent words, and a site in which one server is written anew.
use Prim.Native.Nat.{ℕ, ◌+◌, ◌*◌, ◌≤◌, ◌<◌}
use mathlib.Core.Path.{◌≡◌, sym, ap, ◌∙◌}
use mathlib.Core.Logic.{◌≢◌, ⊎_elim}
use mathlib.Core.Bool.{true}
use mathlib.Core.List.{List, ◌++◌}
use native.Mathlib.Omega.{arith}
use lib.ListN.{length, take, drop, set, length-set, length-drop, take-append-drop}
use lib.Seq.{get_or-set_same, get_or-set_other, take-add, length-take-le}
use borrow.Author.Tests.{lt-ltb}
use Rattle.base.specs.Choice.{pick, upd}
use Rattle.base.specs.declared.Sizes.{Sizes}
use Rattle.base.proofs.Choice.{eq-or, le-or-lt, both_true, upd_same, upd_other}
use Rattle.rules.specs.declared.State.{State}
use Rattle.rules.specs.Words.{slot_size, server_of, good_state, good_words, put}
use Rattle.rules.proofs.Words.{words-good, length-put}
use Rattle.rules.proofs.WellFormed.{sized}
use Rattle.ring.specs.declared.Rings.{Rings}
use Rattle.ring.specs.Queue.{Ringed}
use Rattle.ring.proofs.Parts.{part-before, part-after, part_same, row_below}
use Rattle.site.specs.Parts.{share, part}
use Rattle.site.specs.Site.{Site, record_at, server_at, Good}

-- ---- parts

-- server i's part lies in the words of n servers
pub part_in : (z : Sizes) (i n L : ℕ) → i < n → L ≡ share z * n → share z * i + share z ≤ L
part_in z i n L h e = rw e (row_below (share z) i n h)

pub length_part : (z : Sizes) (i : ℕ) (w : List ℕ) → share z * i + share z ≤ length w → length (part z i w) ≡ share z
length_part z i w h = length-take-le (share z) (drop (share z * i) w) (omega (arith, length-drop (share z * i) w))

pub part-mine : (z : Sizes) (i : ℕ) (w xs : List ℕ) → length xs ≡ share z → share z * i + share z ≤ length w → part z i (put w (share z * i) xs) ≡ xs
part-mine z i w xs e h = part_same w xs (share z * i) (share z) e (omega arith)

pub part-other : (z : Sizes) (i j : ℕ) (w xs : List ℕ) → length xs ≡ share z → share z * i + share z ≤ length w → j ≢ i → part z j (put w (share z * i) xs) ≡ part z j w
part-other z i j w xs e h d = ⊎_elim
    (λ (p : i ≤ j). let a = row_below (share z) i j (omega arith) in ap (take (share z)) (part-after w xs (share z * i) (share z * j) (omega arith) (omega arith)))
    (λ (p : j < i). let a = row_below (share z) j i p in part-before w xs (share z * i) (share z * j) (share z) a (omega arith))
    (le-or-lt i j)

-- a part put back as it was
pub part-back : (z : Sizes) (i : ℕ) (w : List ℕ) → share z * i + share z ≤ length w → put w (share z * i) (part z i w) ≡ w
unfolding put
part-back z i w h =
    let e : length (part z i w) ≡ share z = length_part z i w h in
    ap (λ (x : List ℕ). x ++ drop (share z * i + length (part z i w)) w) (sym (take-add (share z * i) (share z) w))
    ∙ ap (λ (k : ℕ). take (share z * i + share z) w ++ drop (share z * i + k) w) e
    ∙ take-append-drop (share z * i + share z) w

-- ---- one server written anew

pub good-lens : (z : Sizes) (s : State) (h k : List ℕ) → good_state z s h k ≡ true → (length h ≡ share z) × (length k ≡ share z)
unfolding good_state
good-lens z s h k e =
    let a = both_true (good_words z.room.0 s.len.0 h) _ e in
    let b = both_true (good_words z.room.0 s.cand_len.0 k) _ a.1 in
    ((words-good z.room.0 s.len.0 h a.0).0, (words-good z.room.0 s.cand_len.0 k b.0).0)

module _ (z : Sizes) (depth : ℕ) (w : Site) (g : Good z depth w) (i : ℕ) (hi : i < z.n) (s : State) (h k : List ℕ) (me : s.me ≡ i) (gs : good_state z s h k ≡ true)
    (r : Rings) (q o : List ℕ) (rg : Ringed z depth r q) (bx : 6 * slot_size z.room.0 ≤ length o) where
  abbrev pub anew : Site
  anew = record { servers = set w.servers i s; rings = r; hists = put w.hists (share z * i) h; cands = put w.cands (share z * i) k; queue = q; box = o }

  seven : i < length w.servers
  seven = omega (arith, g.seven, (sized z g.sizes).seven)

  h-len : length h ≡ share z
  h-len = (good-lens z s h k gs).0

  k-len : length k ≡ share z
  k-len = (good-lens z s h k gs).1

  h-in : share z * i + share z ≤ length w.hists
  h-in = part_in z i z.n (length w.hists) hi g.hists

  k-in : share z * i + share z ≤ length w.cands
  k-in = part_in z i z.n (length w.cands) hi g.cands

  record-mine : record_at (set w.servers i s) i ≡ s
  record-mine = get_or-set_same w.servers i s _ seven

  record-other : (j : ℕ) → j ≢ i → record_at (set w.servers i s) j ≡ record_at w.servers j
  record-other j d = get_or-set_other w.servers i j s _ d

  pub anew-good : Good z depth anew
  anew-good = record {
    sizes = g.sizes;
    deep = g.deep;
    ringed = rg;
    seven = length-set w.servers i s ∙ g.seven;
    hists = length-put w.hists h (share z * i) (omega (arith, h-len, h-in)) ∙ g.hists;
    cands = length-put w.cands k (share z * i) (omega (arith, k-len, k-in)) ∙ g.cands;
    box = bx;
    me = λ j l. ⊎_elim
        (λ (e : j ≡ i). rw (e, record-mine) me)
        (λ (d : j ≢ i). rw (record-other j d) (g.me j l))
        (eq-or j i);
    state = λ j l. ⊎_elim
        (λ (e : j ≡ i). rw (e, record-mine, part-mine z i w.hists h h-len h-in, part-mine z i w.cands k k-len k-in) gs)
        (λ (d : j ≢ i). rw (record-other j d, part-other z i j w.hists h h-len h-in d, part-other z i j w.cands k k-len k-in d) (g.state j l))
        (eq-or j i);
  }

  serve-mine : server_at z anew i ≡ server_of s h k
  unfolding server_at pick
  serve-mine = rw (lt-ltb i z.n hi, record-mine, part-mine z i w.hists h h-len h-in, part-mine z i w.cands k k-len k-in)

  serve-other : (j : ℕ) → j ≢ i → server_at z anew j ≡ server_at z w j
  unfolding server_at
  serve-other j d = rw (record-other j d, part-other z i j w.hists h h-len h-in d, part-other z i j w.cands k k-len k-in d)

  serve-at : (j : ℕ) → server_at z anew j ≡ upd (server_at z w) i (server_of s h k) j
  serve-at j = ⊎_elim
      (λ (e : j ≡ i). rw e (serve-mine ∙ sym (upd_same (server_at z w) i (server_of s h k))))
      (λ (d : j ≢ i). serve-other j d ∙ sym (upd_other (server_at z w) i (server_of s h k) j d))
      (eq-or j i)

  pub anew-servers : server_at z anew ≡ upd (server_at z w) i (server_of s h k)
  anew-servers = λ t j. serve-at j t
