-- A listing that judge accepts, multiplied, is accepted over the multiplied net, with measures k times as large. Assumes nothing.
use Prim.Native.Nat.{ℕ, ◌*◌, ◌-◌, ◌≤◌}
use mathlib.Core.Path.{◌≡◌, sym, ap, ◌∙◌, subst}
use mathlib.Core.List.{List}
use lib.ListN.{length-map}
use lib.IntN.{pos, ◌*ℤ◌}
use Rattle.tree.specs.Net.{Net, size, own_slacks}
use Rattle.tree.specs.Tree.{Tree, Legal, LegalTree}
use Rattle.tree.specs.Kraft.{kraft_maximum}
use Rattle.tree.proofs.Laws.Planning.Theorem1.{theorem_1}
use Rattle.formats.specs.NetText.{InFormat}
use Rattle.formats.specs.ListingText.{Listing, ListingInFormat}
use Rattle.formats.specs.Outcome.{value}
use Rattle.formats.proofs.Laws.Listings.ListingTexts.{listing_one_lem}
use Rattle.operations.specs.Answers.{Judgement, judge_of}
use Rattle.operations.specs.Demands.{LegalAndTrue, Demand2}
use Rattle.operations.proofs.Laws.Demands.{demands}
use Rattle.invariance.specs.Times.{times_point, times_net, times_tree, times_listing, times_judgement}
use Rattle.invariance.specs.NothingLost.{Scales}
use Rattle.invariance.proofs.Laws.Times.{times_alike, scales_in}

-- judge's best is the Kraft maximum that is computed
best_is : (net : List ℕ) (N : Net) → InFormat net N → (listing : List ℕ) (j : Judgement) → judge_of net listing ≡ value j → j.best ≡ kraft_maximum N.branch (own_slacks N)
best_is net N F listing j e =
    let h = demands.third net N F in
    h.1.1.best listing j e ∙ (theorem_1 N F.in_range.branch.0 F.in_range.sinks.0).only h.0 h.1.0

module _ (k : ℕ) (k1 : 1 ≤ k) (net net' : List ℕ) (N : Net) (F : InFormat net N) (F' : InFormat net' (times_net k N)) where
  S : Scales k N
  S = scales_in k k1 net N F

  second : Demand2 net N
  second = demands.second net N F

  second' : Demand2 net' (times_net k N)
  second' = demands.second net' (times_net k N) F'

  same_size : size (times_net k N) ≡ size N
  same_size = (times_alike k k1 N).n_alike

  legal_times : (T : Tree) → LegalTree N T → LegalTree (times_net k N) (times_tree k T)
  legal_times T L = record {
    shape = subst (λ n. Legal n T.parents) (sym same_size) L.shape;
    placed = length-map T.points (times_point k) ∙ L.placed ∙ ap (λ n. n - 1) (sym same_size);
  }

  true_times : (G : Listing) → LegalAndTrue N G → LegalAndTrue (times_net k N) (times_listing k G)
  true_times G t = (legal_times G.tree t.0, ap (λ z. z *ℤ pos k) t.1 ∙ sym (S.slack G.tree), ap (λ m. m * k) t.2 ∙ sym (S.wire G.tree))

  pub judged_times : (listing listing' : List ℕ) (G : Listing) (j : Judgement) → ListingInFormat (size N) listing G → ListingInFormat (size N) listing' (times_listing k G)
      → judge_of net listing ≡ value j → judge_of net' listing' ≡ value (times_judgement k j)
  judged_times listing listing' G j L L' e =
      let h = (second.accepted listing).0 (j, e) in
      let one : h.0 ≡ G = listing_one_lem (size N) listing h.0 G h.1.0 L in
      let M' = subst (λ n. ListingInFormat n listing' (times_listing k G)) (sym same_size) L' in
      let a = (second'.accepted listing').1 (times_listing k G, (M', true_times G (subst (LegalAndTrue N) one h.1.1))) in
      let m = second.measured listing G L j e in
      let m' = second'.measured listing' (times_listing k G) M' a.0 a.1 in
      let slack = m'.0 ∙ S.slack G.tree ∙ ap (λ z. z *ℤ pos k) (sym m.0) in
      let wire = m'.1 ∙ S.wire G.tree ∙ ap (λ l. l * k) (sym m.1) in
      let best = best_is net' (times_net k N) F' listing' a.0 a.1 ∙ S.best ∙ ap (λ z. z *ℤ pos k) (sym (best_is net N F listing j e)) in
      a.1 ∙ (λ i. value (record { slack = slack i; wire = wire i; best = best i }))
