-- What changes, pushes and options come to.
use Rattle.std.specs.Prelude.{ℕ, List, [], ◌∷◌, ◌++◌, map, Option, Some, None, unwrap_or}
use Rattle.std.specs.List.{flat_map}
use Rattle.wc_text.specs.declared.names.Handle.{Handle}
use Rattle.wc_filters.specs.declared.filter.Filter.{Filter}
use Rattle.wc_filters.specs.declared.refused.FilterRefused.{FilterRefused}
use Rattle.wc_filters.specs.Kept.{new_filter, refusal_of as refusal_of_filter}
use Rattle.wc_hotlist.specs.declared.row.HotRow.{HotRow}
use Rattle.wc_nickdiff.specs.declared.diff_item.Push.{Push}
use Rattle.wc_nickdiff.specs.NickPush.{nick_push}
use Rattle.wc_model.specs.declared.change.Change.{Change}
use Rattle.wc_model.specs.declared.change.Flip.{Flip}
use Rattle.wc_model.specs.declared.change.What.TheVariants.{Limit}
use Rattle.wc_model.specs.declared.notice.Notice.{Notice}
use Rattle.wc_model.specs.declared.refused.ChangeRefused.{ChangeRefused}
use Rattle.wc_model.specs.World.{World, rows_at, root_at}
use Rattle.wc_model.specs.Order.{order}
use Rattle.wc_model.specs.Apply.{refusal, after}
use Rattle.wc_model.specs.Notices.{notice}
use Rattle.wc_model.specs.Touches.{told_after}
use Rattle.wc_objects.specs.declared.object.WireMessage.{WireMessage}
use Rattle.wc_options.specs.Config.{config_text}
use Rattle.wc_rules.specs.Plans.{filters_without, filters_switched}
use Rattle.wc_options.specs.Options.{refusal_of, value_of, with_value, without_value}
use Rattle.wc_options.specs.declared.refusal.SetRefused.{SetRefused}
use Rattle.wc_options.specs.declared.refusal.SetRefused.TheVariants.{UnknownOption}
use Rattle.wc_session.specs.declared.client.Client.{Client}
use Rattle.wc_session.specs.Event.{notice_told, push_told}
use Rattle.wc_session.specs.Sync.{after_event}
use Rattle.wc_core.specs.Limits.{limit_set, limit_unset}
use Rattle.wc_core.specs.Fitted.{fitted, flips_change, flips_everywhere}
use Rattle.wc_core.specs.News.{hotlist_after, rows_used}
use Rattle.wc_core.specs.declared.typed_filter.FilterChange.{FilterChange}
use Rattle.wc_core.specs.declared.typed_filter.FilterChange.TheVariants as filtering
use Rattle.wc_core.specs.declared.typed_hotlist.HotlistUse.{HotlistUse}
use Rattle.wc_core.specs.Resolved.{refusal_text, option_text, filter_text, no_such_filter, told_refusal}
use Rattle.wc_servers.specs.Outs.{Out}
use Rattle.wc_core.specs.State.{State, Act, Sends, outs_of, Stage, Stepped, told_at}
use Rattle.wc_board.specs.Told.{Told}

abbrev pub client_link : Client → ℕ
client_link client = client.link.0

abbrev pub core_buffer : Handle
core_buffer = record { 0 = 1 }

abbrev pub no_step : State → Stepped
no_step state = record { state = state; acts = []; way = [] }

-- the state becomes this one, and this is asked of the loop
abbrev pub reach_step : State → List Act → Stepped
reach_step state acts = record {
  state = state;
  acts = acts;
  way = record { state = state; outs = outs_of acts } ∷ [];
}

-- the state becomes this one
abbrev pub put_step : State → Stepped
put_step state = reach_step state []

-- what is come through after this went out
abbrev pub after_out : Out → Stage → Stage
after_out out stage = record stage { outs = out ∷ stage.outs }

abbrev pub way_after : List Out → List Stage → List Stage
way_after [] way = way
way_after (out ∷ outs) way = map (after_out out) (way_after outs way)

abbrev pub then_does : Stepped → (State → Stepped) → Stepped
then_does first others = record {
  state = (others first.state).state;
  acts = first.acts
      ++ (others first.state).acts;
  way = first.way
      ++ way_after (outs_of first.acts) (others first.state).way;
}

-- messages for the client of a link
abbrev pub sends : ℕ → List WireMessage → List Act
sends link messages = map (Sends link) messages

-- ---- changes

abbrev pub told_to : World → Notice → Client → List Act
told_to world notice client = sends (client_link client) (notice_told world notice client)

-- the world after a change of which this is noticed, the rows that then were last pushed, and what
-- each client is told
abbrev pub tell_all_step : State → Told → World → Notice → Stepped
tell_all_step state told world notice = reach_step (record state {
  world = world;
  told = told;
  clients = map (after_event notice.kind notice.buffer.0) state.clients;
})
    (flat_map (told_to world notice) state.clients)

-- the state with another hotlist
abbrev pub with_hotlist : State → List HotRow → State
with_hotlist state rows = record state { hotlist = rows }

-- an accepted change, as it is
abbrev pub made_step : State → Change → Stepped
made_step state change = tell_all_step
    (with_hotlist state (hotlist_after state.hotlist change.buffer change.what))
    (told_after state.world change.buffer change.what state.told) (after state.world change)
    (notice state.world change)

-- a change with the flags of lines as the filters have them
abbrev pub fitted_in : State → Change → Change
fitted_in state change = fitted state.filters state.world change

-- an accepted change, with these flags
abbrev pub change_step : State → Change → Stepped
change_step state change = made_step state (fitted_in state change)

-- why a change is refused with these flags, if it is
abbrev pub refused : State → Change → Option ChangeRefused
refused state change = refusal state.world (fitted_in state change)

abbrev pub change_step_if : State → Change → Option ChangeRefused → Stepped
change_step_if state change None = change_step state change
change_step_if state change (Some reason) = no_step state

-- a refusal is told by a line of the core buffer, where there are handles for it
abbrev pub refusal_step : State → List ℕ → Stepped
refusal_step state text = change_step_if state (told_refusal state.moment text)
    (refused state (told_refusal state.moment text))

-- a change, or why it is refused
abbrev pub ask_step_if : State → Change → Option ChangeRefused → Stepped
ask_step_if state change None = change_step state change
ask_step_if state change (Some reason) = refusal_step state (refusal_text reason)

abbrev pub ask_step : State → Change → Stepped
ask_step state change = ask_step_if state change (refused state change)

-- ---- pushes of nicklists

abbrev pub pushed_to : Handle → Push → Client → List Act
pushed_to buffer push client = sends (client_link client) (push_told buffer push client)

-- what became of the nicklist of a buffer since it was last pushed
abbrev pub push_at : State → ℕ → Push
push_at state buffer = nick_push (root_at buffer) (told_at state buffer)
    (rows_at state.world buffer)

abbrev pub pushes_of : State → ℕ → List Act
pushes_of state buffer = flat_map (pushed_to (record { 0 = buffer }) (push_at state buffer))
    state.clients

-- what became of each nicklist is pushed to each client that asked for it, in the order of buffers
abbrev pub push_step : State → Stepped
push_step state = reach_step (record state { told = state.world.nicks })
    (flat_map (pushes_of state) (order state.world.groups))

-- ---- options

-- an option gets a value, or why it does not is told
abbrev pub set_step_if : State → List ℕ → List ℕ → Option SetRefused → Stepped
set_step_if state name value None = put_step (record state {
  options = with_value state.options name value;
})
set_step_if state name value (Some reason) = refusal_step state (option_text name reason)

abbrev pub set_step : State → List ℕ → List ℕ → Stepped
set_step state name value = set_step_if state name value (refusal_of state.options name value)

-- an option gets its default, where there is such an option
abbrev pub unset_step_if : State → List ℕ → Option (List ℕ) → Stepped
unset_step_if state name None = refusal_step state (option_text name UnknownOption)
unset_step_if state name (Some value) = put_step (record state {
  options = without_value state.options name;
})

abbrev pub unset_step : State → List ℕ → Stepped
unset_step state name = unset_step_if state name (value_of state.options name)

-- another limit of lines is a change of no one buffer
abbrev pub limit_change : ℕ → Change
limit_change limit = record { buffer = record { 0 = 0 }; what = Limit limit }

abbrev pub limit_step : State → Option ℕ → Stepped
limit_step state None = no_step state
limit_step state (Some limit) = change_step state (limit_change limit)

-- A new limit of lines is in effect, and told, before the option has its value.
abbrev pub set_effect_step : State → List ℕ → List ℕ → Stepped
set_effect_step state name value = then_does (limit_step state (limit_set name value))
    (λ state. set_step state name value)

abbrev pub unset_effect_step : State → List ℕ → Stepped
unset_effect_step state name = then_does (limit_step state (limit_unset name))
    (λ state. unset_step state name)

-- the options are saved as the text of their file
abbrev pub save_step : State → Stepped
save_step state = put_step (record state { saved = Some (config_text state.options) })

-- ---- the hotlist

-- a command for the hotlist, which is typed into a buffer
abbrev pub hotlist_step : State → HotlistUse → Handle → Stepped
hotlist_step state usage buffer =
    put_step (with_hotlist state (rows_used usage buffer state.hotlist))

-- ---- filters

-- the state with other filters
abbrev pub with_filters : State → List Filter → State
with_filters state filters = record state { filters = filters }

-- Other filters, and in the same step the flags that differ by them, where some do.
abbrev pub refilter_step : State → List Filter → List Flip → Stepped
refilter_step state filters [] = put_step (with_filters state filters)
refilter_step state filters (flip ∷ flips) =
    made_step (with_filters state filters) (flips_change (flip ∷ flips))

abbrev pub filters_step : State → List Filter → Stepped
filters_step state filters = refilter_step state filters (flips_everywhere filters state.world)

-- one more filter, or why it is refused
abbrev pub add_filter_if : State → Filter → Option FilterRefused → Stepped
add_filter_if state filter None = filters_step state (state.filters ++ filter ∷ [])
add_filter_if state filter (Some reason) = refusal_step state (filter_text filter.name reason)

-- the filters as they would be, where the name that is given is one of a filter
abbrev pub planned_step : State → List ℕ → Option (List Filter) → Stepped
planned_step state name None = refusal_step state (no_such_filter name)
planned_step state name (Some filters) = filters_step state filters

-- what `/filter` asks for
abbrev pub filter_step : State → FilterChange → Stepped
filter_step state (filtering.Add name buffers tags pattern) =
    add_filter_if state (new_filter name buffers tags pattern)
    (refusal_of_filter state.oracle state.filters name pattern)
filter_step state (filtering.Delete name) = planned_step state name
    (filters_without name state.filters)
filter_step state (filtering.Switch name switch) =
    planned_step state (unwrap_or name []) (filters_switched name switch state.filters)
