-- What comes at a port in a round is what is on its way over the link there.
use Rattle.std.proofs.Common.{◌≡◌, ◌≢◌, ℕ, zero, suc, ◌+◌, ◌<◌, ◌≤◌, ◌==◌, ◌⊎◌, inl, inr, Bool, true, false, List, [], ◌∷◌, ◌++◌, length, map, refl, sym, ap, ◌∙◌, subst, Option, Some, None, slice_get, if◌then◌else◌, eqb-true, eq-eqb, append-nil, arith}
use Rattle.std.proofs.lemmas.Bool.{eqb-false}
use Rattle.std.specs.Option.{option_map_or}
use Rattle.link_model.specs.Lane.{Frame}
use Rattle.link_model.specs.Lanes.{lane_of}
use Rattle.link_model.specs.declared.lanes.LaneId.{LaneId}
use Rattle.link_model.specs.declared.lanes.LinkLanes.{LinkLanes}
use Rattle.spb_types.specs.declared.link.Dir.{Dir}
use Rattle.spb_types.specs.declared.link.Dir.TheVariants.{Ab, Ba}
use Rattle.bridge_api.specs.Step.{frames_at}
use Rattle.bridge_rounds.specs.Inbox.{Inbox}
use Rattle.spb_world.specs.declared.declaration.DeclaredLink.{DeclaredLink}
use Rattle.spb_world.specs.declared.declaration.LinkEnd.{LinkEnd}
use Rattle.spb_world.specs.Links.{far_end, lane_out}
use Rattle.spb_world.proofs.ListLemmas.{length-things}
use Rattle.spb_world.proofs.SoundLaneIds.{turned, near-turned, lane_of_end}
use Rattle.network_model.specs.State.{State, links_of}
use Rattle.network_model.specs.Sound.{IsSoundState}
use Rattle.network_model.proofs.CountedMoves.{is_within}
use Rattle.network_model.proofs.FitsLemmas.{link_there}
use Rattle.network_model.proofs.SoundEvents.{turned-turned}
use Rattle.network_rounds.specs.Rounds.{coming, coming_over, inbox_from, InboxAtPort}

-- no two ends of links are at one port
record OnePerPort (links : List DeclaredLink) : Type 0 where
  apart : (j k : ℕ) (d e : Dir) (l m : DeclaredLink) → slice_get links j ≡ Some l → slice_get links k ≡ Some m
      → (far_end d l).bridge ≡ (far_end e m).bridge → (far_end d l).port ≡ (far_end e m).port → (j ≡ k) × (d ≡ e)

out_of_end : (s : State) (k : ℕ) (dir : Dir) (l : DeclaredLink) → IsSoundState s → slice_get (links_of s) k ≡ Some l
    → lane_out (links_of s) (far_end dir l).bridge (far_end dir l).port ≡ Some (record { link = k; dir = turned dir })
out_of_end s k dir l sound at =
    subst (λ (e : LinkEnd). lane_out (links_of s) e.bridge e.port ≡ Some (record { link = k; dir = turned dir })) (near-turned dir l)
    (lane_of_end (links_of s) k l (turned dir) sound.world.links_apart (link_there s k l sound.world at).apart at)

one_per_port : (s : State) → IsSoundState s → OnePerPort (links_of s)
one_per_port s sound = record {
  apart = λ j k d e l m at_l at_m bridge port.
      let same : Some (record { link = j; dir = turned d }) ≡ Some (record { link = k; dir = turned e }) =
      sym (out_of_end s j d l sound at_l) ∙ ((λ i. lane_out (links_of s) (bridge i) (port i)) ∙ out_of_end s k e m sound at_m) in
      let dirs : turned d ≡ turned e = ap (λ (o : Option LaneId). option_map_or (λ lane. lane.dir) o Ab) same in
      (ap (λ (o : Option LaneId). option_map_or (λ lane. lane.link) o 0) same, sym (turned-turned d) ∙ (ap turned dirs ∙ turned-turned e));
}

at_append : (p : ℕ) (xs ys : Inbox) → frames_at p (xs ++ ys) ≡ frames_at p xs ++ frames_at p ys
at_append p [] ys = refl
at_append p (x ∷ xs) ys = by (x.0 == p) (at_append p xs ys)
  where
    by : (b : Bool) → frames_at p (xs ++ ys) ≡ frames_at p xs ++ frames_at p ys → (if b then x.1 ∷ frames_at p (xs ++ ys) else frames_at p (xs ++ ys)) ≡ (if b then x.1 ∷ frames_at p xs else frames_at p xs) ++ frames_at p ys
    by true more = ap (λ zs. x.1 ∷ zs) more
    by false more = more

-- all come at this port, or none does
at_this : (p q : ℕ) (fs : List Frame) → q ≡ p → frames_at p (map (λ f. (q, f)) fs) ≡ fs
at_this p q [] is = refl
at_this p q (f ∷ fs) is = ap (λ (b : Bool). if b then f ∷ frames_at p (map (λ f. (q, f)) fs) else frames_at p (map (λ f. (q, f)) fs)) (eq-eqb q p is) ∙ ap (λ zs. f ∷ zs) (at_this p q fs is)

at_other : (p q : ℕ) (fs : List Frame) → q ≢ p → frames_at p (map (λ f. (q, f)) fs) ≡ []
at_other p q [] apart = refl
at_other p q (f ∷ fs) apart = by (q == p) refl (at_other p q fs apart)
  where
    by : (b : Bool) → (q == p) ≡ b → frames_at p (map (λ f. (q, f)) fs) ≡ [] → (if b then f ∷ frames_at p (map (λ f. (q, f)) fs) else frames_at p (map (λ f. (q, f)) fs)) ≡ []
    by true e more = absurd (apart (eqb-true q p e))
    by false e more = more

coming_here : (d : Dir) (l : DeclaredLink) (fs : List Frame) (i p : ℕ) → (far_end d l).bridge ≡ i → (far_end d l).port ≡ p → frames_at p (coming d l fs i) ≡ fs
coming_here d l fs i p bridge port =
    ap (λ (b : Bool). frames_at p (if b then map (λ f. ((far_end d l).port, f)) fs else [])) (eq-eqb (far_end d l).bridge i bridge) ∙ at_this p (far_end d l).port fs port

coming_away : (d : Dir) (l : DeclaredLink) (fs : List Frame) (i p : ℕ) → ((far_end d l).bridge ≡ i → (far_end d l).port ≡ p → ⊥) → frames_at p (coming d l fs i) ≡ []
coming_away d l fs i p away = by ((far_end d l).bridge == i) refl
  where
    by : (b : Bool) → ((far_end d l).bridge == i) ≡ b → frames_at p (if b then map (λ f. ((far_end d l).port, f)) fs else []) ≡ []
    by true e = at_other p (far_end d l).port fs (away (eqb-true (far_end d l).bridge i e))
    by false e = refl

module _ (links : List DeclaredLink) (lanes : List LinkLanes) (one : OnePerPort links) (k : ℕ) (dir : Dir) (l : DeclaredLink) (there : slice_get links k ≡ Some l) where
  abbrev p : ℕ
  p = (far_end dir l).port

  abbrev i : ℕ
  i = (far_end dir l).bridge

  over_away : (j : ℕ) (o : Option DeclaredLink) → slice_get links j ≡ o → j ≢ k → frames_at p (coming_over o lanes j i) ≡ []
  over_away j None at apart = refl
  over_away j (Some m) at apart =
      at_append p (coming Ab m (lane_of lanes j Ab) i) (coming Ba m (lane_of lanes j Ba) i)
      ∙ (ap (λ xs. xs ++ frames_at p (coming Ba m (lane_of lanes j Ba) i)) (coming_away Ab m (lane_of lanes j Ab) i p (λ b q. apart (one.apart j k Ab dir m l at there b q).0))
      ∙ coming_away Ba m (lane_of lanes j Ba) i p (λ b q. apart (one.apart j k Ba dir m l at there b q).0))

  over_here : (o : Option DeclaredLink) → slice_get links k ≡ o → frames_at p (coming_over o lanes k i) ≡ lane_of lanes k dir
  over_here None at = absurd (none-some (sym at ∙ there))
    where
      none-some : None ≡ Some l → ⊥
      none-some e = cc
  over_here (Some m) at = both dir refl
    where
      ab-ba : Ab ≡ Ba → ⊥
      ab-ba e = cc

      m-is : m ≡ l
      m-is = some-is (sym at ∙ there)
        where
          some-is : Some m ≡ Some l → m ≡ l
          some-is e = cc

      both : (d : Dir) → dir ≡ d → frames_at p (coming_over (Some m) lanes k i) ≡ lane_of lanes k dir
      both Ab is =
          at_append p (coming Ab m (lane_of lanes k Ab) i) (coming Ba m (lane_of lanes k Ba) i)
          ∙ (ap (λ xs. frames_at p (coming Ab m (lane_of lanes k Ab) i) ++ xs) (coming_away Ba m (lane_of lanes k Ba) i p (λ b q. ab-ba (sym is ∙ sym (one.apart k k Ba dir m l at there b q).1)))
          ∙ (append-nil (frames_at p (coming Ab m (lane_of lanes k Ab) i))
          ∙ (coming_here Ab m (lane_of lanes k Ab) i p (λ j. (far_end (sym is j) (m-is j)).bridge) (λ j. (far_end (sym is j) (m-is j)).port)
          ∙ ap (lane_of lanes k) (sym is))))
      both Ba is =
          at_append p (coming Ab m (lane_of lanes k Ab) i) (coming Ba m (lane_of lanes k Ba) i)
          ∙ (ap (λ xs. xs ++ frames_at p (coming Ba m (lane_of lanes k Ba) i)) (coming_away Ab m (lane_of lanes k Ab) i p (λ b q. ab-ba ((one.apart k k Ab dir m l at there b q).1 ∙ is)))
          ∙ (coming_here Ba m (lane_of lanes k Ba) i p (λ j. (far_end (sym is j) (m-is j)).bridge) (λ j. (far_end (sym is j) (m-is j)).port)
          ∙ ap (lane_of lanes k) (sym is)))

  none_from : (n j : ℕ) → (k < j) ⊎ (j + n ≤ k) → frames_at p (inbox_from n j links lanes i) ≡ []
  none_from zero j away = refl
  none_from (suc n) j away =
      at_append p (coming_over (slice_get links j) lanes j i) (inbox_from n (j + 1) links lanes i)
      ∙ (ap (λ xs. xs ++ frames_at p (inbox_from n (j + 1) links lanes i)) (over_away j (slice_get links j) refl (apart away))
      ∙ none_from n (j + 1) (next away))
    where
      apart : (k < j) ⊎ (j + suc n ≤ k) → j ≢ k
      apart (inl lt) = λ e. absurd (omega (arith, lt, e))
      apart (inr le) = λ e. absurd (omega (arith, le, e))

      next : (k < j) ⊎ (j + suc n ≤ k) → (k < j + 1) ⊎ (j + 1 + n ≤ k)
      next (inl lt) = inl (omega (arith, lt))
      next (inr le) = inr (omega (arith, le))

  all_from : (n j : ℕ) → j ≤ k → k < j + n → frames_at p (inbox_from n j links lanes i) ≡ lane_of lanes k dir
  all_from zero j low high = absurd (omega (arith, low, high))
  all_from (suc n) j low high = by (j == k) refl (all_from n (j + 1))
    where
      by : (b : Bool) → (j == k) ≡ b → (j + 1 ≤ k → k < j + 1 + n → frames_at p (inbox_from n (j + 1) links lanes i) ≡ lane_of lanes k dir) → frames_at p (inbox_from (suc n) j links lanes i) ≡ lane_of lanes k dir
      by true e more =
          let is : j ≡ k = eqb-true j k e in
          at_append p (coming_over (slice_get links j) lanes j i) (inbox_from n (j + 1) links lanes i)
          ∙ (ap (λ xs. frames_at p (coming_over (slice_get links j) lanes j i) ++ xs) (none_from n (j + 1) (inl (omega (arith, is))))
          ∙ (append-nil (frames_at p (coming_over (slice_get links j) lanes j i))
          ∙ (ap (λ (m : ℕ). frames_at p (coming_over (slice_get links m) lanes m i)) is
          ∙ over_here (slice_get links k) refl)))
      by false e more =
          let apart : j ≢ k = eqb-false j k e in
          at_append p (coming_over (slice_get links j) lanes j i) (inbox_from n (j + 1) links lanes i)
          ∙ (ap (λ xs. xs ++ frames_at p (inbox_from n (j + 1) links lanes i)) (over_away j (slice_get links j) refl apart)
          ∙ more (omega (arith, low, apart)) (omega (arith, high)))

pub inbox_at_port : InboxAtPort
inbox_at_port s lanes k dir l sound fits there =
    let less : k < length (links_of s) = is_within (links_of s) k l there in
    all_from (links_of s) lanes (one_per_port s sound) k dir l there (length lanes) 0 (omega arith) (omega (arith, less, fits, length-things s.world.links, sound.fits.lanes))
