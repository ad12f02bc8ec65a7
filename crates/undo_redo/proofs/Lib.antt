mod Strikes
mod Trails
mod Winds
