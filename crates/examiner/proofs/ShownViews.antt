-- What is seen of a sitting comes from views that the observer's machine reaches. Two sides with one first view cannot be told apart.
use Rattle.std.proofs.Common.{◌≡◌, ℕ, Bool, true, ltb, leb, ◌⊎◌, List, [], ◌∷◌, ◌++◌, None, Option, Result, sym, ap, ◌∙◌, inl, inr, ⊎_elim}
use Rattle.labels.specs.Order.{Meaning}
use Rattle.labels.specs.declared.cell.Tag.{Tag}
use Rattle.labels.specs.declared.cell.Cell.{Cell}
use Rattle.labels.specs.declared.refusal.Refusal.{Refusal}
use Rattle.labels.specs.declared.refusal.Refusal.TheVariants.{NoEndMark, OutOfRange}
use Rattle.image.specs.Load.{check, answer}
use Rattle.image.specs.declared.entry.CodeEntry.{CodeEntry}
use Rattle.observer.specs.View.{View}
use Rattle.observer.specs.ObserverMachine.{seen_at, Reaches}
use Rattle.observer.proofs.ReachedViews.{outputs_agree, halted_has_all_outputs, halted_views_are_equal}
use Rattle.viewing.specs.declared.peek.Location.{Location}
use Rattle.viewing.specs.declared.peek.Location.TheVariants.{RegisterNumber, CellNumber}
use Rattle.examiner.specs.History.{PageSeen, PeekSeen, Side}
use Rattle.examiner.specs.Guarantee.{In, Agree}

abbrev pub in_range_of : ℕ → Location → Bool
in_range_of cell_count (RegisterNumber n) = leb n 15
in_range_of cell_count (CellNumber n) = ltb n cell_count

module _ (sees : Tag → Bool) where
  abbrev pub seen_there : View → Location → Option Cell
  seen_there v (RegisterNumber n) = seen_at sees v.registers n
  seen_there v (CellNumber n) = seen_at sees v.cells n

  -- what a peek answers, as a function of the view
  abbrev pub view_peek : ℕ → View → Location → Result (Option Cell) Refusal
  view_peek cell_count v at =
      answer (check v.halted NoEndMark (check (in_range_of cell_count at) OutOfRange None)) (seen_there v at)

module _ (m : Meaning) (sees : Tag → Bool) (code : List CodeEntry) (first : View) where
  -- a page shows the outputs of a reached view, and is marked if that has halted
  pub record ShowsView (p : PageSeen) : Type 0 where
    pub at : View
    pub reached : Reaches m sees code first at
    pub outputs : p.outputs ≡ at.outputs
    pub mark : p.marked ≡ at.halted

  -- All that was seen of a sitting, told by views: once a page is marked or a peek is made when halted, the view now is the last.
  pub record Shown (cell_count : ℕ) (now : View) (pages : List PageSeen) (peeks : List PeekSeen) : Type 0 where
    pub reached : Reaches m sees code first now
    pub page_shows : (p : PageSeen) → In p pages → ShowsView p
    pub marked_when_halted : (p : PageSeen) → In p pages → p.marked ≡ true → now.halted ≡ true
    pub peek_shows : (x : PeekSeen) → In x peeks → x.when_halted ≡ true → x.answered ≡ view_peek sees cell_count now x.location

in_either : {A : Type 0} (x : A) (xs ys : List A) → In x (xs ++ ys) → In x xs ⊎ In x ys
in_either x [] ys h = inr h
in_either x (z ∷ xs) ys (inl e) = inl (inl e)
in_either x (z ∷ xs) ys (inr h) = ⊎_elim (λ k. inl (inr k)) inr (in_either x xs ys h)

module _ (m : Meaning) (sees : Tag → Bool) (code : List CodeEntry) (first : View) (cell_count : ℕ) where
  -- sides whose views are all reached from one cannot be told apart
  pub agreeing : (left right : Side) (now_left now_right : View)
      → Shown m sees code first cell_count now_left left.pages left.peeks → Shown m sees code first cell_count now_right right.pages right.peeks
      → Agree left right
  agreeing left right now_left now_right l r = record {
    outputs_agree = λ p q hp hq.
        let a = shows p hp in
        let b = shows q hq in
        rw (a.outputs, b.outputs) (outputs_agree m sees code first a.at b.at a.reached b.reached);
    none_after_the_mark = λ p q hp hq marked.
        let a = shows p hp in
        let b = shows q hq in
        rw (a.outputs, b.outputs) (halted_has_all_outputs m sees code first a.at b.at a.reached b.reached (sym a.mark ∙ marked));
    marked_pages_are_equal = λ p q hp hq p_marked q_marked.
        let a = l.page_shows p hp in
        let b = r.page_shows q hq in
        let same = halted_views_are_equal m sees code first a.at b.at a.reached b.reached (sym a.mark ∙ p_marked) (sym b.mark ∙ q_marked) in
        a.outputs ∙ ap (λ (v : View). v.outputs) same ∙ sym b.outputs;
    peeks_are_equal = λ p q hp hq p_marked q_marked x y hx hy same_location x_halted y_halted.
        let same = halted_views_are_equal m sees code first now_left now_right l.reached r.reached (l.marked_when_halted p hp p_marked) (r.marked_when_halted q hq q_marked) in
        l.peek_shows x hx x_halted ∙ ap (λ (v : View). view_peek sees cell_count v x.location) same ∙ ap (view_peek sees cell_count now_right) same_location ∙ sym (r.peek_shows y hy y_halted);
  }
    where
      shows : (p : PageSeen) → In p (left.pages ++ right.pages) → ShowsView m sees code first p
      shows p h = ⊎_elim (l.page_shows p) (r.page_shows p) (in_either p left.pages right.pages h)
