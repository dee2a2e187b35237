-- The graph of all that is said.
use Rattle.std.proofs.Common.{◌≡◌, ◌≤◌, Bool, true, false, true≢false, cond, inl, inr, List, [], ◌∷◌, length, map, filter, Some, is_some, refl, sym, ap, ◌∙◌, subst, arith}
use Rattle.std.specs.Prelude.{IsSome, Result, Ok, Err, IfOk}
use Rattle.std.proofs.lemmas.Bool.{and_parts}
use Rattle.spb_types.specs.Graph.{IsAmong, IsDistinct, IsValid, IsValidFor}
use Rattle.spb_types.specs.declared.address.SystemId.{SystemId}
use Rattle.spb_types.specs.declared.graph.Graph.{Graph}
use Rattle.spb_types.specs.declared.limits.TheConstants.{MOST_GRAPH_BRIDGES}
use Rattle.spb_content.specs.declared.content.Content.{Content}
use Rattle.spb_content.specs.Graph.{Contents, systems_in, said_of, HasOwnPorts}
use Rattle.spb_content.specs.Building.{kept, graph_among, has_inst, said_graph}
use Rattle.spb_content.specs.Laws.{SaidGraphHasAllLinks}
use Rattle.spb_content.proofs.Members.{Has, has_filter, filter_has}
use Rattle.spb_content.proofs.Places.{test}
use Rattle.spb_content.proofs.Links.{same_self, ends_said, some_is}
use Rattle.spb_content.proofs.Chosen.{AreChosen, one_content, said_has}
use Rattle.spb_content.proofs.Joined.{are_edges, costs, ports}
use Rattle.spb_content.proofs.Whole.{valid_chosen, valid_for_chosen}

abbrev pub IsSaid : Contents → SystemId → Type 0
IsSaid list x = IsSome (said_of list x)

-- a content with an SPB-Inst is said by its system
has_said : (list : Contents) (c : SystemId × Content) → Has c list → has_inst c ≡ true → IsSaid list c.0
has_said [] c h i = absurd h
has_said (d ∷ ds) c h i = at (test d c.0) refl h (λ k. has_said ds c k i)
  where
    at : (b : Bool) → test d c.0 ≡ b → Has c (d ∷ ds) → (Has c ds → IsSaid ds c.0) → IsSome (cond b (Some d.1) (said_of ds c.0))
    at true t k r = refl
    at false t (inl e) r = absurd (true≢false (sym (rw (i, same_self c.0) refl) ∙ (ap (λ z. test z c.0) e ∙ t)))
    at false t (inr k) r = r k

said_inst : (list : Contents) (x : SystemId) (c : Content) → said_of list x ≡ Some c → has_inst (x, c) ≡ true
said_inst [] x c h = absurd cc
said_inst (d ∷ ds) x c h = at (test d x) refl h (λ k. said_inst ds x c k)
  where
    at : (b : Bool) → test d x ≡ b → cond b (Some d.1) (said_of ds x) ≡ Some c → (said_of ds x ≡ Some c → has_inst (x, c) ≡ true) → has_inst (x, c) ≡ true
    at true t e r = let same : d.1 ≡ c = cc in subst (λ z. is_some z.inst ≡ true) same (and_parts _ _ t).0
    at false t e r = r e

filter_few : (list : Contents) → length (filter has_inst list) ≤ length list
filter_few [] = omega arith
filter_few (c ∷ cs) = at (has_inst c) (filter_few cs)
  where
    at : (b : Bool) → length (filter has_inst cs) ≤ length cs → length (cond b (c ∷ filter has_inst cs) (filter has_inst cs)) ≤ length (c ∷ cs)
    at true h = omega (arith, h)
    at false h = omega (arith, h)

filter_among : (list : Contents) (x : SystemId) → IsAmong x (systems_in (filter has_inst list)) → IsAmong x (systems_in list)
filter_among [] x h = h
filter_among (c ∷ cs) x h = at (has_inst c) h (filter_among cs x)
  where
    at : (b : Bool) → IsAmong x (systems_in (cond b (c ∷ filter has_inst cs) (filter has_inst cs))) → (IsAmong x (systems_in (filter has_inst cs)) → IsAmong x (systems_in cs)) → IsAmong x (systems_in (c ∷ cs))
    at true (inl e) r = inl e
    at true (inr i) r = inr (r i)
    at false i r = inr (r i)

filter_apart : (list : Contents) → IsDistinct (systems_in list) → IsDistinct (systems_in (filter has_inst list))
filter_apart [] d = tt
filter_apart (c ∷ cs) d = at (has_inst c) (filter_apart cs d.1)
  where
    at : (b : Bool) → IsDistinct (systems_in (filter has_inst cs)) → IsDistinct (systems_in (cond b (c ∷ filter has_inst cs) (filter has_inst cs)))
    at true h = ((λ i. d.0 (filter_among cs c.0 i)), h)
    at false h = h

-- all bridges are chosen
pub all_chosen : (list : Contents) → IsDistinct (systems_in list) → AreChosen list (IsSaid list) (filter has_inst list)
all_chosen list apart = record {
  said = λ x s. s;
  closed = λ x y s link. (ends_said list x y link).1;
  has = λ c k. (filter_has has_inst c list k).0;
  holds = λ c k. (let h = filter_has has_inst c list k in has_said list c h.0 h.1);
  bridge = λ c k. (filter_has has_inst c list k).1;
  all = λ c k s. (
      let d = some_is (said_of list c.0) s in
      let same : c ≡ (c.0, d.0) = one_content list c (c.0, d.0) apart k (said_has list c.0 d.0 d.1) refl in
      has_filter has_inst c list k (subst (λ z. has_inst z ≡ true) (sym same) (said_inst list c.0 d.0 d.1)));
  apart = filter_apart list apart;
  few = filter_few list;
}

pub said_graph_has_all_links : SaidGraphHasAllLinks
said_graph_has_all_links list apart few =
    let h = all_chosen list apart in
    let es = are_edges list (IsSaid list) _ h in
    record {
      valid = valid_chosen list (IsSaid list) _ few h;
      valid_for = λ x own. valid_for_chosen list (IsSaid list) _ x few h own;
      costs = λ x y. costs list (IsSaid list) _ x y es (λ link. (ends_said list x y link).0);
      ports = λ x y. ports list (IsSaid list) _ x y es (λ link. (ends_said list x y link).0);
    }

-- ---- what was built

-- the bridges are those at the marks of bridges
kept_bridges : (list : Contents) → kept list (map has_inst list) ≡ filter has_inst list
kept_bridges [] = refl
kept_bridges (c ∷ cs) = ap (λ (ks : Contents). cond (has_inst c) (c ∷ ks) ks) (kept_bridges cs)

marked_graph : (list kept_list : Contents) (marks slice : List Bool) (g : Graph) → kept_list ≡ list → slice ≡ marks → marks ≡ map has_inst list
    → g ≡ graph_among kept_list (kept kept_list slice) → g ≡ said_graph list
marked_graph list kept_list marks slice g same all marked is =
    is ∙ (ap (λ (l : Contents). graph_among l (kept l slice)) same ∙ (ap (λ (ms : List Bool). graph_among list (kept list ms)) (all ∙ marked) ∙ ap (graph_among list) (kept_bridges list)))

pub said_built : {E : Type 0} (list kept_list : Contents) (marks slice : List Bool) (r : Result Graph E) → kept_list ≡ list → slice ≡ marks → marks ≡ map has_inst list
    → IfOk r (λ g. g ≡ graph_among kept_list (kept kept_list slice)) → IfOk r (λ g. g ≡ said_graph list)
said_built list kept_list marks slice (Ok g) same all marked is = marked_graph list kept_list marks slice g same all marked is
said_built list kept_list marks slice (Err e) same all marked is = is

pub said_valid : {E : Type 0} (list : Contents) (r : Result Graph E) → IsDistinct (systems_in list) → length list ≤ MOST_GRAPH_BRIDGES → IfOk r (λ g. g ≡ said_graph list) → IfOk r IsValid
said_valid list (Ok g) apart few is = subst IsValid (sym is) (said_graph_has_all_links list apart few).valid
said_valid list (Err e) apart few is = is

pub said_valid_for : {E : Type 0} (list : Contents) (r : Result Graph E) → IsDistinct (systems_in list) → length list ≤ MOST_GRAPH_BRIDGES → IfOk r (λ g. g ≡ said_graph list)
    → IfOk r (λ g. (x : SystemId) → HasOwnPorts list x → IsValidFor g x)
said_valid_for list (Ok g) apart few is = λ x own. subst (λ (h : Graph). IsValidFor h x) (sym is) ((said_graph_has_all_links list apart few).valid_for x own)
said_valid_for list (Err e) apart few is = is
